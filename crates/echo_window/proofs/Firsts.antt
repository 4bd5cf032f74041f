-- Where the first of a list stands that passes a test.
use Rattle.std.proofs.Common.{◌≡◌, ℕ, ◌<◌, Bool, true, false, nat_lt, List, length, get_or, Some, None, [], ◌∷◌, zero, suc, refl, sym, arith}
use Rattle.std.specs.List.{find, slice_get, position, position_or_len}
use Rattle.std.proofs.lemmas.Option.{slice_get_past}
use borrow.Author.Tests.{ltb-false}
use Rattle.std.proofs.lemmas.List.Folds.{find_at}
use Rattle.std.proofs.lemmas.List.Quantifiers.{position-Some}
use Rattle.std.proofs.lemmas.List.Sums.{position_or_len_is}

-- the first
pub first_at : {X : Type 0} (p : X → Bool) (xs : List X) (i : ℕ) (d : X) → i < length xs → ((k : ℕ) → k < i → p (get_or xs k d) ≡ false) → p (get_or xs i d) ≡ true → position p xs ≡ Some i
first_at p xs i d h before here =
    let e : position_or_len p xs ≡ i = position_or_len_is p xs i d (omega arith) before (λ _. here) in
    grind arith

pub first_found : {X : Type 0} (p : X → Bool) (xs : List X) (i : ℕ) (d : X) → i < length xs → ((k : ℕ) → k < i → p (get_or xs k d) ≡ false) → p (get_or xs i d) ≡ true → Some (get_or xs i d) ≡ find p xs
first_found p [] i d h before here = absurd (omega (arith, h))
first_found p (x ∷ xs) zero d h before here = rw here refl
first_found p (x ∷ xs) (suc i) d h before here = rw (before 0 (omega arith)) (first_found p xs i d (omega (arith, h)) (λ k l. before (suc k) (omega (arith, l))) here)

-- none
pub first_nowhere : {X : Type 0} (p : X → Bool) (xs : List X) (d : X) → ((k : ℕ) → k < length xs → p (get_or xs k d) ≡ false) → position p xs ≡ None
first_nowhere p xs d before =
    let e : position_or_len p xs ≡ length xs = position_or_len_is p xs (length xs) d (omega arith) before (λ h. absurd (omega arith)) in
    grind arith

-- what stands there
pub found_at : {X : Type 0} (p : X → Bool) (xs : List X) (i : ℕ) (d : X) → Some i ≡ position p xs → (i < length xs) × (p (get_or xs i d) ≡ true) × (Some (get_or xs i d) ≡ find p xs)
found_at p xs i d e =
    let there = position-Some p xs i d (sym e) in
    (there.0, there.1, first_found p xs i d there.0 there.2 there.1)

-- nothing is found
pub found_nowhere : {X : Type 0} (p : X → Bool) (xs : List X) → None ≡ position p xs → find p xs ≡ None
found_nowhere p xs e = rw (find_at p xs) (by (nat_lt (position_or_len p xs) (length xs)) refl)
  where
    by : (q : Bool) → nat_lt (position_or_len p xs) (length xs) ≡ q → slice_get xs (position_or_len p xs) ≡ None
    by true h = let some : position p xs ≡ Some (position_or_len p xs) = rw h refl in absurd cc
    by false h = slice_get_past xs (position_or_len p xs) (ltb-false (position_or_len p xs) (length xs) h)
