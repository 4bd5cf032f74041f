-- The words of a set of places, bit by bit: what is read, and what a write leaves.
use Rattle.std.proofs.Common.{◌≡◌, ◌≢◌, ◌⊎◌, ℕ, ◌+◌, ◌*◌, ◌/◌, ◌%◌, ◌^◌, ◌<◌, zero, suc, Bool, true, false, not, eqb, List, [], ◌∷◌, length, get_or, set, replicate}
use Rattle.std.proofs.Common.{refl, sym, ap, ◌∙◌, arith, inl, inr, length-set}
use Rattle.std.proofs.lemmas.Bool.{cases_eq}
use Rattle.std.proofs.lemmas.List.{ext_get_or, get_or-replicate, get_or-set_other, get_or-set_same, length-replicate}
use Rattle.std.proofs.lemmas.List.FromFn.{get_or-map-range_with_len, length-map-range_with_len}
use Rattle.std.proofs.lemmas.List.Folds.{list_all_at}
use Rattle.std.proofs.lemmas.Nat.Bits.{bit_at-trailing_zeros, bit_at-zero}
use Rattle.std.specs.Int.{bit_at, trailing_zeros, w64}
use Rattle.std.specs.List.{list_all}
use Rattle.echo_window.specs.Places.{flag_at, flags_in}

pub flags-length : (words : List ℕ) → length (flags_in words) ≡ 256
unfolding flags_in
flags-length words = length-map-range_with_len (flag_at words) 0 256

-- what is read
pub flags-at : (words : List ℕ) (place : ℕ) → place < 256 → get_or (flags_in words) place false ≡ flag_at words place
unfolding flags_in
flags-at words place low = get_or-map-range_with_len (flag_at words) 0 256 place place false low (omega arith)

-- words without bits
pub flags-none : (words : List ℕ) → ((i : ℕ) → get_or words i 0 ≡ 0) → flags_in words ≡ replicate 256 false
flags-none words none = ext_get_or false (flags_in words) (replicate 256 false) (flags-length words ∙ sym (length-replicate 256 false)) at
  where
    at : (i : ℕ) → i < length (flags_in words) → get_or (flags_in words) i false ≡ get_or (replicate 256 false) i false
    at i inside =
        let low : i < 256 = omega (arith, inside, flags-length words) in
        flags-at words i low ∙ ap (λ (w : ℕ). eqb (bit_at w (i % 64)) 1) (none (i / 64)) ∙ ap (λ (b : ℕ). eqb b 1) (bit_at-zero (i % 64)) ∙ sym (get_or-replicate 256 i false false low)

-- a word in another's place, of which one bit may be another
pub flags-set : (v : Bool) (words : List ℕ) (place x : ℕ) → place < 256 → place / 64 < length words → eqb (bit_at x (place % 64)) 1 ≡ v
    → ((i : ℕ) → i < 64 → i ≢ place % 64 → bit_at x i ≡ bit_at (get_or words (place / 64) 0) i) → flags_in (set words (place / 64) x) ≡ set (flags_in words) place v
flags-set v words place x low known one others =
    ext_get_or false (flags_in (set words (place / 64) x)) (set (flags_in words) place v)
    (flags-length (set words (place / 64) x) ∙ sym (length-set (flags_in words) place v ∙ flags-length words)) at
  where
    within : place < length (flags_in words)
    within = omega (arith, low, flags-length words)

    -- the word of a place
    own : flag_at (set words (place / 64) x) place ≡ v
    own = ap (λ (w : ℕ). eqb (bit_at w (place % 64)) 1) (get_or-set_same words (place / 64) x 0 known) ∙ one

    -- that of another place: its own, or another bit of this
    other : (i : ℕ) → i ≢ place → (i / 64 ≡ place / 64) ⊎ (i / 64 ≢ place / 64) → flag_at (set words (place / 64) x) i ≡ flag_at words i
    other i away (inl same) =
        let bit : i % 64 ≢ place % 64 = λ e. away (omega (arith, e, same)) in
        ap (λ (k : ℕ). eqb (bit_at (get_or (set words (place / 64) x) k 0) (i % 64)) 1) same
        ∙ ap (λ (w : ℕ). eqb (bit_at w (i % 64)) 1) (get_or-set_same words (place / 64) x 0 known)
        ∙ ap (λ (b : ℕ). eqb b 1) (others (i % 64) (omega arith) bit)
        ∙ ap (λ (k : ℕ). eqb (bit_at (get_or words k 0) (i % 64)) 1) (sym same)
    other i away (inr apart) = ap (λ (w : ℕ). eqb (bit_at w (i % 64)) 1) (get_or-set_other words (place / 64) (i / 64) x 0 apart)

    by : (i : ℕ) → i < 256 → (i ≡ place) ⊎ (i ≢ place) → get_or (flags_in (set words (place / 64) x)) i false ≡ get_or (set (flags_in words) place v) i false
    by i less (inl same) =
        ap (λ (k : ℕ). get_or (flags_in (set words (place / 64) x)) k false) same
        ∙ flags-at (set words (place / 64) x) place low ∙ own
        ∙ sym (ap (λ (k : ℕ). get_or (set (flags_in words) place v) k false) same ∙ get_or-set_same (flags_in words) place v false within)
    by i less (inr away) =
        flags-at (set words (place / 64) x) i less ∙ other i away (cases_eq (i / 64) (place / 64))
        ∙ sym (get_or-set_other (flags_in words) place i v false away ∙ flags-at words i less)

    at : (i : ℕ) → i < length (flags_in (set words (place / 64) x)) → get_or (flags_in (set words (place / 64) x)) i false ≡ get_or (set (flags_in words) place v) i false
    at i inside = by i (omega (arith, inside, flags-length (set words (place / 64) x))) (cases_eq i place)

-- four words of 0 have none
pub zero-words : (i : ℕ) → ◌≡◌ {A = ℕ} (get_or (0 ∷ 0 ∷ 0 ∷ 0 ∷ []) i 0) 0
zero-words zero = refl
zero-words (suc zero) = refl
zero-words (suc (suc zero)) = refl
zero-words (suc (suc (suc zero))) = refl
zero-words (suc (suc (suc (suc i)))) = refl

-- a word that isn't 0 has a bit
pub bit-set : (words : List ℕ) (j : ℕ) → j < 4 → 0 < get_or words j 0 → get_or words j 0 < 2 ^ 64 → list_all not (flags_in words) ≡ false
bit-set words j low some few =
    let word = get_or words j 0 in
    let lowest = bit_at-trailing_zeros w64 word some few in
    let bit = trailing_zeros w64 word in
    let short : bit < 64 = lowest.0 in
    let place : (j * 64 + bit) / 64 ≡ j = omega (arith, short) in
    let rest : (j * 64 + bit) % 64 ≡ bit = omega (arith, short) in
    let inside : j * 64 + bit < 256 = omega (arith, low, short) in
    let known : flag_at words (j * 64 + bit) ≡ true =
    ap (λ (k : ℕ). eqb (bit_at (get_or words k 0) ((j * 64 + bit) % 64)) 1) place ∙ ap (λ (k : ℕ). eqb (bit_at word k) 1) rest ∙ ap (λ (b : ℕ). eqb b 1) lowest.1 in
    list_all_at not (flags_in words) (j * 64 + bit) false (omega (arith, inside, flags-length words)) (ap not (flags-at words (j * 64 + bit) inside ∙ known))

-- where none has one, all are 0
pub none-set : (words : List ℕ) → ((i : ℕ) → get_or words i 0 ≡ 0) → list_all not (flags_in words) ≡ true
none-set words none = ap (λ (l : List Bool). list_all not l) (flags-none words none)
