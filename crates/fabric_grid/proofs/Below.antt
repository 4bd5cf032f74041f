-- What holds of the numbers below one, and of one more.
use Rattle.std.proofs.Common.{◌≡◌, ◌<◌, ◌≤◌, ℕ, zero, suc, ◌+◌, Bool, true, false, cond, List, [], ◌∷◌, ◌++◌, refl, sym, ap, ◌∙◌, add-one, arith, inl, inr, length, length-append}
use Rattle.std.proofs.Math.Nat.{eq-or-lt_of_le}
use Rattle.std.proofs.lemmas.Bool.{and_from, and_left, and_parts, and_right}
use Rattle.fabric_grid.specs.Below.{all_below, count_below, sum_below, each_below, texts_below}

-- one more of which it holds
pub all_more : (p : ℕ → Bool) (n : ℕ) → all_below p n ≡ true → p n ≡ true → all_below p (n + 1) ≡ true
all_more p n h k = ap (all_below p) (add-one n) ∙ and_from (all_below p n) (p n) h k

le_of_suc : (i n : ℕ) → i < suc n → i ≤ n
le_of_suc i n low = omega (arith, low)

-- one of which it doesn't
pub all_refuted : (p : ℕ → Bool) (i n : ℕ) → i < n → p i ≡ false → all_below p n ≡ false
all_refuted p i zero low h = absurd (omega (arith, low))
all_refuted p i (suc n) low h = elim (eq-or-lt_of_le (le_of_suc i n low)) [
  | inl is ↦ and_right (all_below p n) (p n) (sym (ap p is) ∙ h)
  | inr less ↦ and_left (all_below p n) (p n) (all_refuted p i n less h)
]

-- so not of all
pub all_no : (p : ℕ → Bool) (i n : ℕ) → i < n → p i ≡ false → false ≡ all_below p n
all_no p i n low h = sym (all_refuted p i n low h)

-- it holds of each
pub all_each : (p : ℕ → Bool) (n : ℕ) → all_below p n ≡ true → (i : ℕ) → i < n → p i ≡ true
all_each p zero h i low = absurd (omega (arith, low))
all_each p (suc n) h i low = elim (eq-or-lt_of_le (le_of_suc i n low)) [
  | inl is ↦ ap p is ∙ (and_parts (all_below p n) (p n) h).1
  | inr less ↦ all_each p n (and_parts (all_below p n) (p n) h).0 i less
]

pub all_of : (p : ℕ → Bool) (n : ℕ) → ((i : ℕ) → i < n → p i ≡ true) → all_below p n ≡ true
all_of p zero h = refl
all_of p (suc n) h = and_from (all_below p n) (p n) (all_of p n (λ i low. h i (omega (arith, low)))) (h n (omega arith))

pub count_more : (p : ℕ → Bool) (n : ℕ) → count_below p (n + 1) ≡ count_below p n + cond (p n) 1 0
count_more p n = ap (count_below p) (add-one n)

pub sum_more : (f : ℕ → ℕ) (n : ℕ) → sum_below f (n + 1) ≡ sum_below f n + f n
sum_more f n = ap (sum_below f) (add-one n)

pub each_more : (p : ℕ → Bool) (n : ℕ) → each_below p (n + 1) ≡ each_below p n ++ p n ∷ []
each_more p n = ap (each_below p) (add-one n)

pub each_length : (p : ℕ → Bool) (n : ℕ) → length (each_below p n) ≡ n
each_length p zero = refl
each_length p (suc n) = length-append (each_below p n) (p n ∷ []) ∙ (ap (λ (k : ℕ). k + 1) (each_length p n) ∙ add-one n)

pub texts_more : (f : ℕ → List ℕ) (n : ℕ) → texts_below f (n + 1) ≡ texts_below f n ++ f n
texts_more f n = ap (texts_below f) (add-one n)
