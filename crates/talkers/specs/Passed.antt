-- What passed. It states no standard. A count ends at the greatest number of 64 bits, and no moment is later than that.
use Rattle.std.specs.Prelude.{ℕ, ◌+◌, ◌-◌, ◌^◌, max, min}
use Rattle.talkers.specs.declared.rows.passed.Passed.{Passed}

-- two counts together
abbrev pub sum_of : ℕ → ℕ → ℕ
sum_of m n = min (2 ^ 64 - 1) (m + n)

-- the first of two moments
abbrev pub first_of : ℕ → ℕ → ℕ
first_of m n = min (2 ^ 64 - 1) (min m n)

-- nothing: its first moment is behind all others
abbrev pub nothing : Passed
nothing = record { frames = 0; octets = 0; first = 2 ^ 64 - 1; last = 0 }

-- one frame of so many octets at a moment
abbrev pub one_frame : ℕ → ℕ → Passed
one_frame octets moment = record { frames = 1; octets = octets; first = moment; last = moment }

-- both
abbrev pub passed_with : Passed → Passed → Passed
passed_with a b = record {
  frames = sum_of a.frames b.frames;
  octets = sum_of a.octets b.octets;
  first = first_of a.first b.first;
  last = max a.last b.last;
}
