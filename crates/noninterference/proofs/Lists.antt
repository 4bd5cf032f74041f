-- Lists of which a part is taken.
use Rattle.std.proofs.Common.{◌≡◌, ◌∙◌, refl, ap, ℕ, zero, suc, ◌+◌, ◌<◌, arith, Bool, true, false, cond, List, [], ◌∷◌, ◌++◌, map, filter, slice_index_or}
use Rattle.std.specs.Prelude.{◌&&◌}
use Rattle.std.specs.List.{AllByRecursion, flat_map, range_with_len}
use Rattle.std.proofs.lemmas.List.Elements.{filter-append}

module _ {A B : Type 0} where
  -- of each part what passes
  pub filter-flat_map : (p : B → Bool) (f : A → List B) (xs : List A) → filter p (flat_map f xs) ≡ flat_map (λ x. filter p (f x)) xs
  filter-flat_map p f [] = refl
  filter-flat_map p f (x ∷ xs) = filter-append p (f x) (flat_map f xs) ∙ ap (λ l. filter p (f x) ++ l) (filter-flat_map p f xs)

  pub filter-map : (p : B → Bool) (f : A → B) (xs : List A) → filter p (map f xs) ≡ map f (filter (λ x. p (f x)) xs)
  filter-map p f [] = refl
  filter-map p f (x ∷ xs) = by (p (f x)) (filter-map p f xs)
    where
      by : (b : Bool) → filter p (map f xs) ≡ map f (filter (λ x. p (f x)) xs)
          → cond b (f x ∷ filter p (map f xs)) (filter p (map f xs)) ≡ map f (cond b (x ∷ filter (λ x. p (f x)) xs) (filter (λ x. p (f x)) xs))
      by true rest = ap (λ l. f x ∷ l) rest
      by false rest = rest

  pub filter-none : (p : B → Bool) (f : A → B) → ((x : A) → p (f x) ≡ false) → (xs : List A) → filter p (map f xs) ≡ []
  filter-none p f none [] = refl
  filter-none p f none (x ∷ xs) = ap (λ b. cond b (f x ∷ filter p (map f xs)) (filter p (map f xs))) (none x) ∙ filter-none p f none xs

  pub filter-lines : (p : B → Bool) (f : A → B) (xs : List A) → filter p (map f xs) ≡ flat_map (λ x. filter p (f x ∷ [])) xs
  filter-lines p f [] = refl
  filter-lines p f (x ∷ xs) = by (p (f x)) (filter-lines p f xs)
    where
      by : (b : Bool) → filter p (map f xs) ≡ flat_map (λ x. filter p (f x ∷ [])) xs
          → cond b (f x ∷ filter p (map f xs)) (filter p (map f xs)) ≡ cond b (f x ∷ []) [] ++ flat_map (λ x. filter p (f x ∷ [])) xs
      by true rest = ap (λ l. f x ∷ l) rest
      by false rest = rest

  pub all-map : (P : A → Type 0) (Q : B → Type 0) (f : A → B) → ((x : A) → P x → Q (f x)) → (xs : List A) → AllByRecursion P xs → AllByRecursion Q (map f xs)
  all-map P Q f each [] h = tt
  all-map P Q f each (x ∷ xs) h = (each x h.0, all-map P Q f each xs h.1)

module _ {A : Type 0} where
  pub map-back : {B : Type 0} (f : A → B) (g : B → A) → ((x : A) → g (f x) ≡ x) → (xs : List A) → map g (map f xs) ≡ xs
  map-back f g back [] = refl
  map-back f g back (x ∷ xs) = rw (back x, map-back f g back xs) refl

  -- one test after another
  pub filter-both : (p q : A → Bool) (xs : List A) → filter p (filter q xs) ≡ filter (λ x. p x && q x) xs
  filter-both p q [] = refl
  filter-both p q (x ∷ xs) = by (q x) (p x) refl (filter-both p q xs)
    where
      by : (b c : Bool) → p x ≡ c → filter p (filter q xs) ≡ filter (λ x. p x && q x) xs
          → filter p (cond b (x ∷ filter q xs) (filter q xs)) ≡ cond (c && b) (x ∷ filter (λ x. p x && q x) xs) (filter (λ x. p x && q x) xs)
      by true true is rest = ap (λ b. cond b (x ∷ filter p (filter q xs)) (filter p (filter q xs))) is ∙ ap (λ l. x ∷ l) rest
      by true false is rest = ap (λ b. cond b (x ∷ filter p (filter q xs)) (filter p (filter q xs))) is ∙ rest
      by false true is rest = rest
      by false false is rest = rest

  pub filter-agree : (p q : A → Bool) → ((x : A) → p x ≡ q x) → (xs : List A) → filter p xs ≡ filter q xs
  filter-agree p q same [] = refl
  filter-agree p q same (x ∷ xs) = rw (same x, filter-agree p q same xs) refl

  pub all-both : (P Q R : A → Type 0) → ((x : A) → P x → Q x → R x) → (xs : List A) → AllByRecursion P xs → AllByRecursion Q xs → AllByRecursion R xs
  all-both P Q R each [] h k = tt
  all-both P Q R each (x ∷ xs) h k = (each x h.0 k.0, all-both P Q R each xs h.1 k.1)

  pub all-each : (P R : A → Type 0) → ((x : A) → P x → R x) → (xs : List A) → AllByRecursion P xs → AllByRecursion R xs
  all-each P R each [] h = tt
  all-each P R each (x ∷ xs) h = (each x h.0, all-each P R each xs h.1)

  pub all-filter : (P : A → Type 0) (p : A → Bool) (xs : List A) → AllByRecursion P xs → AllByRecursion P (filter p xs)
  all-filter P p [] h = tt
  all-filter P p (x ∷ xs) h = by (p x) (all-filter P p xs h.1)
    where
      by : (b : Bool) → AllByRecursion P (filter p xs) → AllByRecursion P (cond b (x ∷ filter p xs) (filter p xs))
      by true rest = (h.0, rest)
      by false rest = rest

-- the element of a place in a list by number
pub at-range : {B : Type 0} (f : ℕ → B) (d : B) (a n k : ℕ) → k < n → slice_index_or (map f (range_with_len a n)) k d ≡ f (a + k)
at-range f d a zero k lt = absurd (omega (arith, lt))
at-range f d a (suc n) zero lt = ap f (omega arith)
at-range f d a (suc n) (suc k) lt = at-range f d (a + 1) n k (omega (arith, lt)) ∙ ap f (omega arith)
