-- Lists that belong together, element by element.
use Rattle.std.proofs.Common.{◌≡◌, ◌∙◌, refl, sym, ap, ℕ, suc, List, [], ◌∷◌, ◌++◌, map, length}
use Rattle.std.specs.List.{AllByRecursion, concat, flat_map}
use Rattle.std.proofs.lemmas.List.Concat.{flat_map-cons}

pub map-length : {A B : Type 0} (f : A → B) (xs : List A) → length (map f xs) ≡ length xs
map-length f [] = refl
map-length f (x ∷ xs) = ap suc (map-length f xs)

-- texts side by side, each made of an element
pub concat-map : {A : Type 0} (f : A → List ℕ) (xs : List A) → concat (map f xs) ≡ flat_map f xs
concat-map f [] = refl
concat-map f (x ∷ xs) = ap (λ l. f x ++ l) (concat-map f xs) ∙ sym (flat_map-cons f x xs)

pub all-same : {A : Type 0} (P Q : A → Type 0) (xs : List A) → ((x : A) → P x → Q x) → AllByRecursion P xs → AllByRecursion Q xs
all-same P Q [] each all = tt
all-same P Q (x ∷ xs) each all = (each x all.0, all-same P Q xs each all.1)

-- two facts of each
pub all-two : {A : Type 0} (P Q R : A → Type 0) (xs : List A) → ((x : A) → P x → Q x → R x) → AllByRecursion P xs → AllByRecursion Q xs → AllByRecursion R xs
all-two P Q R [] each all also = tt
all-two P Q R (x ∷ xs) each all also = (each x all.0 also.0, all-two P Q R xs each all.1 also.1)
