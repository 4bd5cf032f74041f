-- The rows of a graph. It states no standard.
use Rattle.std.specs.Prelude.{ℕ, List, [], slice_get, Vec}
use Rattle.std.specs.declared.alloc.Global.{Global}
use Rattle.std.specs.Option.{option_map_or}

-- the row of a number, which has the numbers that one step leads to
abbrev pub row_in : List (Vec ℕ Global) → ℕ → List ℕ
row_in graph s = option_map_or (λ row. row.items) (slice_get graph s) []
