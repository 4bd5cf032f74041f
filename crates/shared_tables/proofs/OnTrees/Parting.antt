-- Two keys differ in the lowest bit of what both have not in common.
use Rattle.std.proofs.Common.{◌≡◌, ◌≢◌, ℕ, zero, suc, ◌+◌, ◌^◌, ◌<◌, Option, Some, None, IfNone, IfSome, refl, sym, ap, ◌∙◌, arith}
use Rattle.std.specs.Int.{bit_at, trailing_zeros, w64}
use Rattle.std.specs.Int.Bits.{bit_xor, xor_assoc, xor_self, xor_zero_l, xor_zero_r}
use Rattle.std.proofs.lemmas.Nat.{xor_lt}
use Rattle.std.proofs.lemmas.Nat.Bits.{bit_at_xor, bit_at-lt, bit_at-trailing_zeros}

-- numbers that have nothing in which they differ are one
xor_zero : (a b : ℕ) → bit_xor a b ≡ 0 → a ≡ b
xor_zero a b e = sym (xor_zero_r a) ∙ ap (bit_xor a) (sym (xor_self b)) ∙ sym (xor_assoc a b b) ∙ ap (λ n. bit_xor n b) e ∙ xor_zero_l b

some_xor : (a b : ℕ) → a ≢ b → 0 < bit_xor a b
some_xor a b ne = from (bit_xor a b) refl
  where
    from : (x : ℕ) → bit_xor a b ≡ x → 0 < x
    from zero e = absurd (ne (xor_zero a b e))
    from (suc x) e = omega arith

pub if_none : (o : Option ℕ) {P Q : Type 0} → (P → Q) → IfNone o P → IfNone o Q
if_none None f p = f p
if_none (Some b) f p = tt

pub if_some : (o : Option ℕ) {P Q : ℕ → Type 0} → ((b : ℕ) → P b → Q b) → IfSome o P → IfSome o Q
if_some None f p = tt
if_some (Some b) f p = f b p

module _ (a b : ℕ) (p : a < 2 ^ 64) (q : b < 2 ^ 64) (ne : a ≢ b) where
  lowest : (trailing_zeros w64 (bit_xor a b) < 64) × (bit_at (bit_xor a b) (trailing_zeros w64 (bit_xor a b)) ≡ 1)
  lowest = let t = bit_at-trailing_zeros w64 (bit_xor a b) (some_xor a b ne) (xor_lt 64 a b p q) in (t.0, t.1)

  pub parting_small : trailing_zeros w64 (bit_xor a b) < 64
  parting_small = lowest.0

  pub parting_differs : bit_at a (trailing_zeros w64 (bit_xor a b)) + bit_at b (trailing_zeros w64 (bit_xor a b)) ≡ 1
  parting_differs =
      let i : ℕ = trailing_zeros w64 (bit_xor a b) in
      omega (arith, lowest.1, bit_at_xor a b (trailing_zeros w64 (bit_xor a b)), bit_at-lt a (trailing_zeros w64 (bit_xor a b)), bit_at-lt b (trailing_zeros w64 (bit_xor a b)))
