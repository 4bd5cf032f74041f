-- A walk over members: what the lowest bit of the rest of a word tells, and the list of those that are left.
use Rattle.std.proofs.Common.{◌≡◌, ◌≢◌, ℕ, zero, suc, ◌+◌, ◌-◌, ◌*◌, ◌^◌, ◌%◌, ◌<◌, ◌≤◌, Bool, true, false, cond, List, [], ◌∷◌, Option, None, Some, IfNone, IfSome, bit_and, min, slice_index_or, refl, sym, ap, ◌∙◌, arith, inl, inr}
use Rattle.std.proofs.lemmas.Bool.{cond-true, cond-false, cases_lt, cases_eq}
use Rattle.std.proofs.lemmas.Nat.Bits.{bit_at-trailing_zeros, bit_at_clear_same, bit_at_clear_other, bit_at_and, bit_at-lt, bit_at_mask_below, bit_at_mask_inside}
use Rattle.std.specs.Int.{bit_at, bit_not, trailing_zeros, w64}
use Rattle.std.specs.List.{filter, range_with_len}
use Rattle.overlay.specs.Bits.{is_member_in}
use Rattle.overlay.specs.Walk.{IsAt, members_above}
use Rattle.overlay.specs.declared.ports.walk.Position.{Position}
use Rattle.overlay.proofs.WordLemmas.{told_by}

-- ---- the lowest bit that is left

module _ (words : List ℕ) (vid : ℕ) (at : Position) (is : IsAt words vid at) (fits : at.rest < 2 ^ 64) (some : at.rest ≢ 0) where
  lowest : (trailing_zeros w64 at.rest < 64) × (bit_at at.rest (trailing_zeros w64 at.rest) ≡ 1) × ((i : ℕ) → i < trailing_zeros w64 at.rest → bit_at at.rest i ≡ 0)
  lowest = bit_at-trailing_zeros w64 at.rest (omega arith) fits

  pub lowest-above : at.after < at.column * 64 + trailing_zeros w64 at.rest
  lowest-above = elim (cases_lt at.after (at.column * 64 + trailing_zeros w64 at.rest)) [
    | inl above ↦ above
    | inr le ↦ absurd (omega (arith, lowest.1, is.told (trailing_zeros w64 at.rest) lowest.0 le))
  ]

  pub lowest-member : is_member_in words vid (at.column * 64 + trailing_zeros w64 at.rest) ≡ true
  lowest-member =
      let t : ℕ = trailing_zeros w64 at.rest in
      let word : ℕ = slice_index_or words (at.column * 8192 + vid) 0 in
      let back : at.column * 64 + t - at.column * 64 ≡ t = omega arith in
      told_by words vid at.column (at.column * 64 + t) word (at.column * 8192 + vid) 1 refl refl (omega arith) (omega (arith, lowest.0))
      (ap (bit_at word) back ∙ sym (is.left t lowest.0 lowest-above) ∙ lowest.1)

  pub lowest-least : (p : ℕ) → at.after < p → p < at.column * 64 + trailing_zeros w64 at.rest → is_member_in words vid p ≡ false
  lowest-least p above below = elim (cases_lt p (at.column * 64)) [
    | inl before ↦ is.passed p above before
    | inr le ↦
        let b : ℕ = p - at.column * 64 in
        let word : ℕ = slice_index_or words (at.column * 8192 + vid) 0 in
        let low : b < 64 = omega (arith, lowest.0) in
        told_by words vid at.column p word (at.column * 8192 + vid) 0 refl refl le (omega (arith, lowest.0))
        (sym (is.left b low (omega arith)) ∙ lowest.2 b (omega arith))
  ]

  pub lowest-told : IsAt words vid (record { after = at.column * 64 + trailing_zeros w64 at.rest; column = at.column; rest = bit_and at.rest (bit_not w64 (1 * 2 ^ trailing_zeros w64 at.rest % 2 ^ 64)) })
  lowest-told =
      let t : ℕ = trailing_zeros w64 at.rest in
      record {
        within = omega (arith, lowest.0);
        passed = λ p above before. absurd (omega arith);
        told = λ b low le. elim (cases_eq b t) [
          | inl same ↦ ap (bit_at (bit_and at.rest (bit_not w64 (1 * 2 ^ t % 2 ^ 64)))) same ∙ bit_at_clear_same w64 at.rest t lowest.0
          | inr ne ↦ bit_at_clear_other w64 at.rest t lowest.0 b low ne ∙ lowest.2 b (omega arith)
        ];
        left = λ b low above. bit_at_clear_other w64 at.rest t lowest.0 b low (λ e. omega arith) ∙ is.left b low (omega (arith, lowest-above));
      }

-- ---- the start

-- all but the lowest bit
pub start : (words : List ℕ) (vid word : ℕ) → word ≡ slice_index_or words (0 * 8192 + vid) 0 → IsAt words vid (record { after = 0; column = 0; rest = bit_and word 18446744073709551614 })
start words vid word read = record {
  within = omega arith;
  passed = λ p above before. absurd (omega arith);
  told = λ b low le.
      let lowest : b ≡ 0 = omega arith in
      ap (bit_at (bit_and word 18446744073709551614)) lowest ∙ bit_at_and word 18446744073709551614 0 ∙ omega (arith, bit_at_mask_below 1 64 0 (omega arith));
  left = λ b low above.
      bit_at_and word 18446744073709551614 b ∙ omega (arith, bit_at_mask_inside 1 64 b (omega arith) low, bit_at-lt word b) ∙ ap (λ (w : ℕ). bit_at w b) read;
}

-- ---- the members that are left

skipped : (p : ℕ → Bool) (a k n m : ℕ) → m ≡ k + n → ((i : ℕ) → a ≤ i → i < a + k → p i ≡ false) → filter p (range_with_len a m) ≡ filter p (range_with_len (a + k) n)
skipped p a zero n m len none =
    let same : m ≡ n = omega arith in
    let here : a ≡ a + 0 = omega arith in
    λ i. filter p (range_with_len (here i) (same i))
skipped p a (suc k) n m len none =
    let same : m ≡ suc (k + n) = omega arith in
    let here : a + 1 + k ≡ a + suc k = omega arith in
    ap (λ (l : ℕ). filter p (range_with_len a l)) same
    ∙ cond-false (p a) (a ∷ filter p (range_with_len (a + 1) (k + n))) (filter p (range_with_len (a + 1) (k + n))) (none a (omega arith) (omega arith))
    ∙ skipped p (a + 1) k n (k + n) refl (λ i low high. none i (omega arith) (omega arith))
    ∙ ap (λ (s : ℕ). filter p (range_with_len s n)) here

pub alike : (p q : ℕ → Bool) (a n : ℕ) → ((i : ℕ) → a ≤ i → i < a + n → p i ≡ q i) → filter p (range_with_len a n) ≡ filter q (range_with_len a n)
alike p q a zero same = refl
alike p q a (suc n) same =
    let rest = alike p q (a + 1) n (λ i low high. same i (omega arith) (omega arith)) in
    let first = same a (omega arith) (omega arith) in
    λ i. cond (first i) (a ∷ rest i) (rest i)

pub nothing-above : (p : ℕ → Bool) (a n : ℕ) → ((i : ℕ) → a ≤ i → i < a + n → p i ≡ false) → filter p (range_with_len a n) ≡ []
nothing-above p a n none =
    let len : n ≡ n + 0 = omega arith in
    skipped p a n 0 n len none

pub first-above : (words : List ℕ) (vid ports after q : ℕ) → after < q → q ≤ ports → is_member_in words vid q ≡ true
    → ((p : ℕ) → after < p → p < q → is_member_in words vid p ≡ false) → members_above words vid ports after ≡ q ∷ members_above words vid ports q
first-above words vid ports after q above high member least =
    let p = is_member_in words vid in
    let len : ports - after ≡ (q - (after + 1)) + suc (ports - q) = omega arith in
    let here : after + 1 + (q - (after + 1)) ≡ q = omega arith in
    skipped p (after + 1) (q - (after + 1)) (suc (ports - q)) (ports - after) len (λ i low less. least i (omega arith) (omega arith))
    ∙ ap (λ (s : ℕ). filter p (range_with_len s (suc (ports - q)))) here
    ∙ cond-true (p q) (q ∷ filter p (range_with_len (q + 1) (ports - q))) (filter p (range_with_len (q + 1) (ports - q))) member

pub none-above : (words : List ℕ) (vid ports after : ℕ) → ((p : ℕ) → after < p → p ≤ ports → is_member_in words vid p ≡ false) → members_above words vid ports after ≡ []
none-above words vid ports after none = nothing-above (is_member_in words vid) (after + 1) (ports - after) (λ i low less. none i (omega arith) (omega arith))

pub whatever : (o : Option ℕ) {P : Type 0} → P → IfNone o P
whatever None p = p
whatever (Some b) p = tt
