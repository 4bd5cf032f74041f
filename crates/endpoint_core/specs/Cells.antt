-- The counts as rows of numbers. It states no standard.
use Rattle.std.specs.Prelude.{ℕ, ◌+◌, min, List, [], slice_index_or, slice_set, Option, Some, None}
use Rattle.endpoint_core.specs.Counts.{most}

-- counts in rows, one for each VID and one for none
pub record Cells : Type 0 where
  -- by number, in no segment
  pub nowhere : List ℕ
  -- the same for each VID, from 0 on
  pub segments : List (List ℕ)

-- a number of a segment or of none; 0 where there is no such row or number
abbrev pub count_in : Cells → Option ℕ → ℕ → ℕ
count_in c None number = slice_index_or c.nowhere number 0
count_in c (Some vid) number = slice_index_or (slice_index_or c.segments vid []) number 0

-- a row with one more of a number, up to the greatest number
abbrev pub bumped : List ℕ → ℕ → List ℕ
bumped row number = slice_set row number (min most (slice_index_or row number 0 + 1))
