-- A law of what of near records differs, counted. It states no standard.
use Rattle.std.specs.Prelude.{◌≡◌, ◌<◌, ℕ, ◌+◌, ◌-◌, ◌^◌, min, if◌then◌else◌, List, [], ◌∷◌, length, Option, Some, None, IfSome}
use Rattle.std.specs.List.{FoldsTo}
use Rattle.capture_compare.specs.Differing.{Counted, is_such, no_pairs, with_pair}
use Rattle.capture_compare.specs.declared.lonely.pairs.DifferenceRow.{DifferenceRow}
use Rattle.capture_compare.specs.declared.lonely.pairs.NearPair.{NearPair}

-- how many of some pairs are counted together with one
abbrev pub such_in : NearPair → List NearPair → ℕ
such_in p [] = 0
such_in p (q ∷ qs) = (if is_such p q then 1 else 0) + such_in p qs

-- the first of them
abbrev pub first_such : NearPair → List NearPair → Option NearPair
first_such p [] = None
first_such p (q ∷ qs) = if is_such p q then Some q else first_such p qs

-- the row of such pairs
abbrev pub row_in : NearPair → List DifferenceRow → Option DifferenceRow
row_in p [] = None
row_in p (row ∷ rows) = if is_such row.first p then Some row else row_in p rows

-- a row has the first of such pairs, and how many there are, up to the greatest number
pub record IsRowOf (p : NearPair) (pairs : List NearPair) (row : DifferenceRow) : Type 0 where
  pub count_is : row.count ≡ min (such_in p pairs) (2 ^ 64 - 1)
  pub first_is : first_such p pairs ≡ Some row.first

-- one pair counted after another makes each row that of its pairs
abbrev pub EachRowCountsItsPairs : Type 0
EachRowCountsItsPairs =
    (pairs : List NearPair) (counted : Counted) (p : NearPair) → FoldsTo (λ old pair new. new ≡ with_pair pair old) no_pairs pairs counted
    → IfSome (row_in p counted.rows) (IsRowOf p pairs)

-- and where there are fewer than 1,024 rows no pair is without one
abbrev pub EachPairHasARow : Type 0
EachPairHasARow =
    (pairs : List NearPair) (counted : Counted) (p : NearPair) → FoldsTo (λ old pair new. new ≡ with_pair pair old) no_pairs pairs counted
    → row_in p counted.rows ≡ None → length counted.rows < 1024 → such_in p pairs ≡ 0
