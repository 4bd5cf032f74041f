-- A name behind others.
use Rattle.std.proofs.Common.{◌≡◌, ℕ, suc, ◌+◌, Bool, true, false, cond, List, [], ◌∷◌, ◌++◌, length, take, min, Option, Some, None, sym, ap, ◌∙◌, arith}
use Rattle.std.specs.Prelude.{position, unwrap_or}
use Rattle.std.specs.List.{position_from}
use Rattle.std.proofs.lemmas.Bool.{cond-true}
use Rattle.std.proofs.lemmas.Iterator.Adapters.{position_from-zero}
use Rattle.std.proofs.lemmas.List.{length-take-le, take_at, take_min}
use Rattle.wire.specs.Octets.{is_same}
use Rattle.wire.proofs.OctetsLemmas.{is_same-refl}
use Rattle.report_counts.specs.Outlets.{place_in, row_of}

found_from : {X : Type 0} (p : X → Bool) (i : ℕ) (xs : List X) (x : X) → position_from p i xs ≡ None → p x ≡ true → position_from p i (xs ++ x ∷ []) ≡ Some (i + length xs)
found_from p i [] x none here = let e : i ≡ i + 0 = omega arith in cond-true _ _ _ here ∙ ap Some e
found_from p i (y ∷ ys) x none here = by (p y) none (λ k. found_from p (i + 1) ys x k here)
  where
    by : (b : Bool) → cond b (Some i) (position_from p (i + 1) ys) ≡ None
        → (position_from p (i + 1) ys ≡ None → position_from p (i + 1) (ys ++ x ∷ []) ≡ Some (i + 1 + length ys))
        → cond b (Some i) (position_from p (i + 1) (ys ++ x ∷ [])) ≡ Some (i + suc (length ys))
    by true k more = absurd cc
    by false k more = let e : i + 1 + length ys ≡ i + suc (length ys) = omega arith in more k ∙ ap Some e

found_last : {X : Type 0} (p : X → Bool) (xs : List X) (x : X) → position p xs ≡ None → p x ≡ true → position p (xs ++ x ∷ []) ≡ Some (length xs)
found_last p xs x none here =
    let e : 0 + length xs ≡ length xs = omega arith in
    position_from-zero p (xs ++ x ∷ []) ∙ found_from p 0 xs x (sym (position_from-zero p xs) ∙ none) here ∙ ap Some e

-- a new name's row is behind the others
pub row_new : (name : List ℕ) (names : List (List ℕ)) → place_in name names ≡ None → row_of name (names ++ name ∷ []) ≡ length names
row_new name names none = ap (λ (row : Option ℕ). unwrap_or row 512) (found_last (λ other. is_same other name) names name none (is_same-refl name))

-- the first octets of a text, in front of others
pub front_of : (text front rest : List ℕ) (n : ℕ) → n ≡ min (length text) 55 → front ≡ take n text → take n (front ++ rest) ≡ take 55 text
front_of text front rest n size is =
    let e : n ≡ min 55 (length text) = omega arith in
    take_at front rest n (ap length is ∙ length-take-le n text (omega arith)) ∙ is ∙ ap (λ k. take k text) e ∙ take_min 55 text
