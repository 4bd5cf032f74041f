-- Lists, and their first so many.
use Rattle.std.proofs.Common.{◌≡◌, ◌∙◌, ap, sym, refl, ℕ, zero, suc, ◌≤◌, List, [], ◌∷◌, ◌++◌, length, take, drop, arith}
use Rattle.std.proofs.lemmas.List.{drop_all, drop_at, length-take, take_at}
use Rattle.std.proofs.lemmas.List.Edits.{insert_end}
use Rattle.std.specs.List.{insert}

pub take_entered : {X : Type 0} (n : ℕ) (xs : List X) (at : ℕ) (x : X) → at ≤ n → at ≤ length xs → take (suc n) (insert xs at x) ≡ insert (take n xs) at x
take_entered n xs zero x low inside = refl
take_entered zero xs (suc at) x low inside = absurd (omega (arith, low))
take_entered (suc n) [] (suc at) x low inside = absurd (omega (arith, inside))
take_entered (suc n) (y ∷ ys) (suc at) x low inside = ap (λ zs. y ∷ zs) (take_entered n ys at x (omega (arith, low)) (omega (arith, inside)))

pub drop_entered : {X : Type 0} (n : ℕ) (xs : List X) (at : ℕ) (x : X) → at ≤ n → at ≤ length xs → drop (suc n) (insert xs at x) ≡ drop n xs
drop_entered n xs zero x low inside = refl
drop_entered zero xs (suc at) x low inside = absurd (omega (arith, low))
drop_entered (suc n) [] (suc at) x low inside = absurd (omega (arith, inside))
drop_entered (suc n) (y ∷ ys) (suc at) x low inside = drop_entered n ys at x (omega (arith, low)) (omega (arith, inside))

behind : {X : Type 0} (f : List X → List X) (n : ℕ) (xs : List X) (x : X) → length xs ≡ n → f (insert xs n x) ≡ f (xs ++ x ∷ [])
behind f n xs x long = ap (λ k. f (insert xs k x)) (sym long) ∙ ap f (insert_end xs x)

pub take_behind : {X : Type 0} (n : ℕ) (xs : List X) (x : X) → length xs ≡ n → take n (insert xs n x) ≡ xs
take_behind n xs x long = behind (take n) n xs x long ∙ take_at xs (x ∷ []) n long

pub drop_behind : {X : Type 0} (n : ℕ) (xs : List X) (x : X) → length xs ≡ n → drop n (insert xs n x) ≡ x ∷ []
drop_behind n xs x long = behind (drop n) n xs x long ∙ drop_at xs (x ∷ []) n long

pub drop_taken : {X : Type 0} (n : ℕ) (xs : List X) → drop n (take n xs) ≡ []
drop_taken n xs = drop_all n (take n xs) (omega (arith, length-take n xs))
