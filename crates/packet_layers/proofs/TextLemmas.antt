-- Texts that grow piece by piece.
use Rattle.std.proofs.Common.{◌≡◌, ◌∙◌, ℕ, ap, sym, refl, arith, List, [], ◌∷◌, ◌++◌, length, append_assoc}
use Rattle.std.specs.Prelude.{codes}
use Rattle.std.specs.List.{slice_index}
use Rattle.packet_layers.specs.Text.{hex_octet, mac_text}

-- two pieces, one behind the other
pub put_after : (old mid new x y : List ℕ) → mid ≡ old ++ x → new ≡ mid ++ y → new ≡ old ++ (x ++ y)
put_after old mid new x y first second = second ∙ ap (λ (t : List ℕ). t ++ y) first ∙ append_assoc old x y

-- a piece, and behind it a word and what the word is of
pub put_field : (old mid new x word y : List ℕ) → mid ≡ old ++ x → new ≡ mid ++ (word ++ y) → new ≡ old ++ ((x ++ word) ++ y)
put_field old mid new x word y first second =
    put_after old mid new x (word ++ y) first second ∙ ap (λ (t : List ℕ). old ++ t) (sym (append_assoc x word y))

-- the digits of six octets
abbrev pub six : ℕ → ℕ → ℕ → ℕ → ℕ → ℕ → List ℕ
six a b c d e f =
    hex_octet a ++ codes ":" ++ hex_octet b ++ codes ":" ++ hex_octet c ++ codes ":" ++ hex_octet d ++ codes ":" ++ hex_octet e ++ codes ":" ++ hex_octet f

pub mac_six : (m : List ℕ) → length m ≡ 6 → mac_text m ≡ six (slice_index m 0) (slice_index m 1) (slice_index m 2) (slice_index m 3) (slice_index m 4) (slice_index m 5)
mac_six [] h = absurd (omega (arith, h))
mac_six (a ∷ []) h = absurd (omega (arith, h))
mac_six (a ∷ b ∷ []) h = absurd (omega (arith, h))
mac_six (a ∷ b ∷ c ∷ []) h = absurd (omega (arith, h))
mac_six (a ∷ b ∷ c ∷ d ∷ []) h = absurd (omega (arith, h))
mac_six (a ∷ b ∷ c ∷ d ∷ e ∷ []) h = absurd (omega (arith, h))
mac_six (a ∷ b ∷ c ∷ d ∷ e ∷ f ∷ []) h = refl
mac_six (a ∷ b ∷ c ∷ d ∷ e ∷ f ∷ g ∷ rest) h = absurd (omega (arith, h))
