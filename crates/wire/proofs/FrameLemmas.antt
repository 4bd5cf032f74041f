-- A text by its places is a frame in whole text.
use Rattle.std.proofs.Common.{◌≡◌, ℕ, zero, suc, ◌+◌, ◌*◌, ◌/◌, ◌%◌, ◌<◌, ◌≤◌, true, eqb, List, ◌∷◌, ◌++◌, length, take, drop, refl, sym, ap, ◌∙◌, arith}
use Rattle.std.proofs.lemmas.List.{take-append-drop, drop-drop}
use Rattle.wire.specs.Octets.{octet, field, octets}
use Rattle.wire.proofs.OctetsLemmas.{begins-true, cell}
use Rattle.wire.specs.Ether.{has_tag}
use Rattle.wire.specs.Frame.{tagged, frame_behind_tag}
use Rattle.wire.specs.Tag.{bit, vid_of}

-- a text is its addresses and what is behind them
pub three-parts : (b : List ℕ) → take 6 b ++ (take 6 (drop 6 b) ++ drop 12 b) ≡ b
three-parts b =
    ap (λ (z : List ℕ). take 6 b ++ (take 6 (drop 6 b) ++ z)) (sym (drop-drop 6 6 b))
    ∙ ap (λ (z : List ℕ). take 6 b ++ z) (take-append-drop 6 (drop 6 b))
    ∙ take-append-drop 6 b

-- a tag's control is made of its parts
bit-eqb_one : (n : ℕ) → n < 2 → bit (eqb n 1) ≡ n
bit-eqb_one zero h = refl
bit-eqb_one (suc zero) h = refl
bit-eqb_one (suc (suc n)) h = absurd (omega arith)

pub control-parts : (tci : ℕ) → 8192 * (tci / 8192) + 4096 * bit (eqb (tci / 4096 % 2) 1) + tci % 4096 ≡ tci
control-parts tci = omega (arith, bit-eqb_one (tci / 4096 % 2) (omega arith))

-- two octets are those of the number that they spell
octets-two : (high low : ℕ) → high < 256 → low < 256 → octets 2 (high * 256 + low) ≡ high ∷ low ∷ octets 0 0
octets-two high low h l =
    let first : (high * 256 + low) / 256 % 256 ≡ high = omega arith in
    let second : (high * 256 + low) % 256 ≡ low = omega arith in
    rw (first, second) refl

-- a text of 18 octets and more that has a tag is the frame behind it with the tag put in
pub tagged-frame_behind_tag : (b : List ℕ) → octet 14 b < 256 → octet 15 b < 256 → 18 ≤ length b → has_tag b ≡ true → b ≡ tagged (frame_behind_tag b) (vid_of (field 14 2 b))
tagged-frame_behind_tag b high low long has =
    let spelled : field 14 2 b ≡ octet 14 b * 256 + octet 15 b = omega arith in
    let f = frame_behind_tag b in
    let tci : octets 2 (8192 * f.pcp + 4096 * bit f.dei + field 14 2 b % 4096) ≡ octet 14 b ∷ octet 15 b ∷ octets 0 0 = ap (octets 2) (control-parts (field 14 2 b) ∙ spelled) ∙ octets-two (octet 14 b) (octet 15 b) high low in
    let behind : drop 12 b ≡ 0x81 ∷ 0x00 ∷ drop 14 b = begins-true (0x81 ∷ 0x00 ∷ octets 0 0) (drop 12 b) has ∙ ap (λ (z : List ℕ). 0x81 ∷ 0x00 ∷ z) (drop-drop 2 12 b) in
    let cells : drop 14 b ≡ octet 14 b ∷ octet 15 b ∷ drop 16 b = cell 14 b (omega arith) ∙ ap (λ (z : List ℕ). octet 14 b ∷ z) (cell 15 b (omega arith)) in
    sym (three-parts b)
    ∙ ap (λ (z : List ℕ). take 6 b ++ (take 6 (drop 6 b) ++ z)) (behind ∙ ap (λ (z : List ℕ). 0x81 ∷ 0x00 ∷ z) cells)
    ∙ ap (λ (z : List ℕ). take 6 b ++ (take 6 (drop 6 b) ++ (0x81 ∷ 0x00 ∷ z ++ drop 16 b))) (sym tci)
