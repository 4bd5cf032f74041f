-- Numbers in order, with one number more.
use Rattle.std.proofs.Common.{◌≡◌, ◌≤◌, ◌<◌, ◌∙◌, ap, sym, refl, ℕ, zero, suc, ◌+◌, ◌==◌, nat_lt, not, Bool, true, false, cond, arith}
use Rattle.std.proofs.Common.{List, [], ◌∷◌, length, take, Some, None}
use Rattle.std.specs.Prelude.{position, unwrap_or}
use Rattle.std.specs.List.{insert, position_or_len}
use Rattle.std.proofs.lemmas.Bool.{eq-eqb, ne_eqb, cond-true, cond-false}
use Rattle.std.proofs.lemmas.Bool.Decides.{nat_tests}
use Rattle.std.proofs.lemmas.List.{take-take, take_all}
use Rattle.report_page.specs.Order.{in_order, largest, placed}

-- ---- one place among others, of which the first so many are kept

abbrev put : (ℕ → Bool) → ℕ → List ℕ → List ℕ
put is_less x [] = x ∷ []
put is_less x (y ∷ ys) = cond (is_less y) (x ∷ y ∷ ys) (y ∷ put is_less x ys)

put_cases : (b : Bool) (p : ℕ → Bool) (x y : ℕ) (ys : List ℕ) → insert ys (position_or_len p ys) x ≡ put p x ys
    → insert (y ∷ ys) (cond (not b) (1 + position_or_len p ys) 0) x ≡ cond b (x ∷ y ∷ ys) (y ∷ put p x ys)
put_cases true p x y ys more = refl
put_cases false p x y ys more =
    let e : 1 + position_or_len p ys ≡ suc (position_or_len p ys) = omega arith in
    ap (λ (n : ℕ). insert (y ∷ ys) n x) e ∙ ap (λ (l : List ℕ). y ∷ l) more

is_put : (p : ℕ → Bool) (x : ℕ) (xs : List ℕ) → insert xs (position_or_len p xs) x ≡ put p x xs
is_put p x [] = refl
is_put p x (y ∷ ys) = put_cases (p y) p x y ys (is_put p x ys)

front : (n y : ℕ) (ys : List ℕ) → take n (y ∷ take n ys) ≡ take n (y ∷ ys)
front zero y ys = refl
front (suc n) y ys = ap (λ (l : List ℕ). y ∷ l) (take-take n (suc n) ys (omega arith))

take_cases : (b : Bool) (n x y : ℕ) (kept all ys : List ℕ) → take n kept ≡ take n all
    → take (suc n) (cond b (x ∷ y ∷ take n ys) (y ∷ kept)) ≡ take (suc n) (cond b (x ∷ y ∷ ys) (y ∷ all))
take_cases true n x y kept all ys more = ap (λ (l : List ℕ). x ∷ l) (front n y ys)
take_cases false n x y kept all ys more = ap (λ (l : List ℕ). y ∷ l) more

take_put : (n : ℕ) (p : ℕ → Bool) (x : ℕ) (xs : List ℕ) → take n (put p x (take n xs)) ≡ take n (put p x xs)
take_put zero p x xs = refl
take_put (suc n) p x [] = refl
take_put (suc n) p x (y ∷ ys) = take_cases (p y) n x y (put p x (take n ys)) (put p x ys) ys (take_put n p x ys)

take_placed : (size : ℕ → ℕ) (n x : ℕ) (xs : List ℕ) → take n (placed size x (take n xs)) ≡ take n (placed size x xs)
take_placed size n x xs =
    let p : ℕ → Bool = λ other. nat_lt (size other) (size x) in
    ap (take n) (is_put p x (take n xs)) ∙ take_put n p x xs ∙ sym (ap (take n) (is_put p x xs))

-- ---- one number more

next : (n : ℕ) → n + 1 ≡ suc n
next n = omega arith

pub largest_none : (size : ℕ → ℕ) → largest size 0 ≡ []
unfolding largest in_order
largest_none size = refl

pub largest_put : (size : ℕ → ℕ) (n : ℕ) → 0 < size n → take 40 (placed size n (largest size n)) ≡ largest size (n + 1)
unfolding largest in_order
largest_put size n some =
    take_placed size 40 n (in_order size n)
    ∙ ap (take 40) (sym (ap (in_order size) (next n)
    ∙ cond-false (size n == 0) (in_order size n) (placed size n (in_order size n)) (ne_eqb (size n) 0 (λ z. omega (arith, z, some)))))

pub largest_same : (size : ℕ → ℕ) (n : ℕ) → size n ≡ 0 → largest size n ≡ largest size (n + 1)
unfolding largest in_order
largest_same size n none =
    ap (take 40) (sym (ap (in_order size) (next n)
    ∙ cond-true (size n == 0) (in_order size n) (placed size n (in_order size n)) (eq-eqb (size n) 0 none)))

-- the first three of no more than three are all
pub all_of_few : (xs : List ℕ) → length xs ≤ 3 → xs ≡ take 3 xs
all_of_few xs few = sym (take_all 3 xs few)

-- ---- where a place stands

found_cases : (b : Bool) (p : ℕ → Bool) (ys : List ℕ) → position_or_len p ys ≤ length ys
    → cond (not b) (1 + position_or_len p ys) 0 ≤ suc (length ys)
found_cases true p ys few = omega arith
found_cases false p ys few = omega (arith, few)

pub place_inside : (p : ℕ → Bool) (xs : List ℕ) → position_or_len p xs ≤ length xs
place_inside p [] = omega arith
place_inside p (y ∷ ys) = found_cases (p y) p ys (place_inside p ys)

is_cases : (b : Bool) (n m : ℕ) → nat_lt n m ≡ b → n ≤ m → unwrap_or (cond b (Some n) None) m ≡ n
is_cases true n m is few = refl
is_cases false n m is few = grind (arith, nat_tests)

pub place_is : (p : ℕ → Bool) (xs : List ℕ) → unwrap_or (position p xs) (length xs) ≡ position_or_len p xs
place_is p xs =
    is_cases (nat_lt (position_or_len p xs) (length xs)) (position_or_len p xs) (length xs) refl (place_inside p xs)
