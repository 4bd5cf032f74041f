-- Counts in lists and tables. It states no standard.
--     added, added_in      so many more at one place, and all other counts as they were
use Rattle.std.specs.Prelude.{ℕ, ◌+◌, min, List, [], replicate, slice_index, slice_index_or, slice_set}

-- the greatest number of 64 bits
abbrev pub most : ℕ
most = 18446744073709551615

-- a count and so many more, up to the greatest number
abbrev pub with_more : ℕ → ℕ → ℕ
with_more more count = min most (count + more)

-- counts with so many more at a place; where there is no such place, as they were
abbrev pub added : ℕ → ℕ → List ℕ → List ℕ
added at more counts = slice_set counts at (with_more more (slice_index counts at))

-- the same in a column of a row
abbrev pub added_in : ℕ → ℕ → ℕ → List (List ℕ) → List (List ℕ)
added_in row column more rows = slice_set rows row (added column more (slice_index_or rows row []))

-- the count in a column of a row, 0 where there is none
abbrev pub count_in : ℕ → ℕ → List (List ℕ) → ℕ
count_in row column rows = slice_index (slice_index_or rows row []) column

-- so many counts of nothing
unfoldable pub zeros : ℕ → List ℕ
zeros size = replicate size 0

-- so many rows of such counts
unfoldable pub zero_rows : ℕ → ℕ → List (List ℕ)
zero_rows width size = replicate size (replicate width 0)
