-- Where the row of a pair of near records stands. It serves the contracts.
use Rattle.std.specs.Prelude.{◌≡◌, ◌<◌, ℕ, zero, suc, true, false, List, [], ◌∷◌, length, slice_index_or, Option, Some, None}
use Rattle.record_match.specs.Lengths.{one_more}
use Rattle.capture_compare.specs.Differing.{is_such, row_of}
use Rattle.capture_compare.specs.declared.lonely.pairs.DifferenceRow.{DifferenceRow}
use Rattle.capture_compare.specs.declared.lonely.pairs.NearPair.{NearPair}

-- the row at an index, or else one of this pair alone
abbrev pub row_at : NearPair → List DifferenceRow → ℕ → DifferenceRow
row_at p rows i = slice_index_or rows i (row_of p)

-- the one at an index is of such pairs, and none before it
pub record IsFirstRow (p : NearPair) (rows : List DifferenceRow) (i : ℕ) : Type 0 where
  pub inside : i < length rows
  pub before : (k : ℕ) → k < i → is_such (row_at p rows k).first p ≡ false
  pub here : is_such (row_at p rows i).first p ≡ true

-- where it stands, or that none is
abbrev pub FindsRow : NearPair → List DifferenceRow → Option ℕ → Type 0
FindsRow p rows (Some i) = IsFirstRow p rows i
FindsRow p rows None = (k : ℕ) → k < length rows → is_such (row_at p rows k).first p ≡ false

-- one more in a row
abbrev pub with_one : DifferenceRow → DifferenceRow
with_one row = record row { count = one_more row.count }

-- in the one at an index
abbrev pub with_one_at : List DifferenceRow → ℕ → List DifferenceRow
with_one_at [] i = []
with_one_at (row ∷ rows) zero = with_one row ∷ rows
with_one_at (row ∷ rows) (suc i) = row ∷ with_one_at rows i
