-- The most work of one call of the tables, whatever stands in them. It states no standard.
use Rattle.std.specs.Prelude.{ℕ, ◌+◌}

-- how often a call compares an address at most: each of the 12 bits of the VID and the 48 of the address sends it on once, and
-- then it is compared with one that is kept
abbrev pub most_compared : ℕ
most_compared = 12 + 48 + 1
