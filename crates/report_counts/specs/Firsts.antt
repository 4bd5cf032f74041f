-- What came first of each number. It states no standard.
use Rattle.std.specs.Prelude.{ℕ, List, Option, Some, None, replicate, slice_index_or, slice_set}

-- of so many numbers nothing came yet
unfoldable pub none_yet : {A : Type 0} → ℕ → List (Option A)
none_yet size = replicate size None

-- what came first, where this comes now
abbrev pub first_of : {A : Type 0} → A → Option A → Option A
first_of value (Some first) = Some first
first_of value None = Some value

-- what came first of each number, where this comes of one of them; where there is no such number, as it was
abbrev pub with_first : {A : Type 0} → ℕ → A → List (Option A) → List (Option A)
with_first number value firsts = slice_set firsts number (first_of value (slice_index_or firsts number None))
