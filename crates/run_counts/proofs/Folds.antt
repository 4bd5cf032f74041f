-- Lines one after another, and what is told behind them.
use Rattle.std.proofs.Common.{◌≡◌, ◌∙◌, ap, sym, refl, subst, ℕ, zero, suc, ◌+◌, ◌<◌, ◌≤◌, List, [], ◌∷◌, ◌++◌, length, get_or, arith}
use Rattle.std.specs.Prelude.{⊤}
use Rattle.std.specs.List.{AllByRecursion, flat_map, range_with_len}
use Rattle.run_counts.specs.Told.{Told}
use Rattle.run_counts.specs.Rows.{told_by, with_row}
use Rattle.run_counts.specs.declared.parts.row.Row.{Row}

-- ---- of each element

pub all_any : {X : Type 0} (xs : List X) → AllByRecursion (λ x. ⊤) xs
all_any [] = tt
all_any (x ∷ xs) = (tt, all_any xs)

pub all_weaker : {X : Type 0} (P Q : X → Type 0) → ((x : X) → P x → Q x) → (xs : List X) → AllByRecursion P xs → AllByRecursion Q xs
all_weaker P Q f [] all = tt
all_weaker P Q f (x ∷ xs) all = (f x all.0, all_weaker P Q f xs all.1)

pub all_append : {X : Type 0} (P : X → Type 0) (xs ys : List X) → AllByRecursion P xs → AllByRecursion P ys → AllByRecursion P (xs ++ ys)
all_append P [] ys first second = second
all_append P (x ∷ xs) ys first second = (first.0, all_append P xs ys first.1 second)

pub all_flat : {K X : Type 0} (P : X → Type 0) (f : K → List X) → ((k : K) → AllByRecursion P (f k)) → (ks : List K) → AllByRecursion P (flat_map f ks)
all_flat P f one [] = tt
all_flat P f one (k ∷ ks) = all_append P (f k) (flat_map f ks) (one k) (all_flat P f one ks)

pub all_range : (P : ℕ → Type 0) (a n : ℕ) → ((k : ℕ) → a ≤ k → k < a + n → P k) → AllByRecursion P (range_with_len a n)
all_range P a zero each = tt
all_range P a (suc n) each = (each a (omega arith) (omega arith), all_range P (a + 1) n (λ k low high. each k (omega (arith, low)) (omega (arith, high))))

pub flat_same : {K X : Type 0} (f g : K → List X) (ks : List K) → AllByRecursion (λ k. f k ≡ g k) ks → flat_map f ks ≡ flat_map g ks
flat_same f g [] all = refl
flat_same f g (k ∷ ks) all = ap (λ (l : List _). l ++ flat_map f ks) all.0 ∙ ap (λ (l : List _). g k ++ l) (flat_same f g ks all.1)

pub range_same : {X : Type 0} (f g : ℕ → List X) (a n : ℕ) → ((k : ℕ) → a ≤ k → k < a + n → f k ≡ g k) → flat_map f (range_with_len a n) ≡ flat_map g (range_with_len a n)
range_same f g a n each = flat_same f g (range_with_len a n) (all_range (λ k. f k ≡ g k) a n each)

-- ---- rows

pub told_append : (t : Told) (xs ys : List Row) → told_by t (xs ++ ys) ≡ told_by (told_by t xs) ys
told_append t [] ys = refl
told_append t (x ∷ xs) ys = told_append (with_row t x) xs ys

-- what is told of one thing
module _ {X : Type 0} (at : Told → X) (v : X) where
  -- the row leaves this value where it stands
  abbrev pub Keeps : Row → Type 0
  Keeps row = (t : Told) → at t ≡ v → at (with_row t row) ≡ v

  -- behind the rows there is this value
  abbrev pub Gives : List Row → Type 0
  Gives rows = (t : Told) → at (told_by t rows) ≡ v

  pub stays : (rows : List Row) → AllByRecursion Keeps rows → (t : Told) → at t ≡ v → at (told_by t rows) ≡ v
  stays [] all t is = is
  stays (row ∷ rows) all t is = stays rows all.1 (with_row t row) (all.0 t is)

  pub gives_first : (xs ys : List Row) → Gives xs → AllByRecursion Keeps ys → Gives (xs ++ ys)
  gives_first xs ys first all t = ap at (told_append t xs ys) ∙ stays ys all (told_by t xs) (first t)

  pub gives_last : (xs ys : List Row) → Gives ys → Gives (xs ++ ys)
  gives_last xs ys last t = ap at (told_append t xs ys) ∙ last (told_by t xs)

  -- where one element of some gives it, and all keep it
  pub gives_at : {K : Type 0} (f : K → List Row) → ((k : K) → AllByRecursion Keeps (f k)) → (ks : List K) (i : ℕ) (k : K) → i < length ks → get_or ks i k ≡ k → Gives (f k)
      → Gives (flat_map f ks)
  gives_at f keep [] i k inside is gives = absurd (omega arith)
  gives_at f keep (x ∷ ks) zero k inside is gives = gives_first (f x) (flat_map f ks) (subst (λ j. Gives (f j)) (sym is) gives) (all_flat Keeps f keep ks)
  gives_at f keep (x ∷ ks) (suc i) k inside is gives = gives_last (f x) (flat_map f ks) (gives_at f keep ks i k (omega (arith, inside)) is gives)
