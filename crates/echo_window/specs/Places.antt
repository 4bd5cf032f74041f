-- How a set of places stands in words, by bits. It serves proofs.
use Rattle.std.specs.Prelude.{ℕ, ◌/◌, ◌%◌, ◌==◌, Bool, List, map, slice_index_or}
use Rattle.std.specs.Int.{bit_at}
use Rattle.std.specs.List.{range_with_len}

-- the bit of a place is 1: each word has those of 64
abbrev pub flag_at : List ℕ → ℕ → Bool
flag_at words place = bit_at (slice_index_or words (place / 64) 0) (place % 64) == 1

-- for each of 256 places whether its bit is 1
unfoldable pub flags_in : List ℕ → List Bool
flags_in words = map (flag_at words) (range_with_len 0 256)
