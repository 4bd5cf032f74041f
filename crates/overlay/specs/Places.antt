-- A row of places, of which each may hold something, as a finite map from their numbers. It states no standard.
use Rattle.std.specs.Prelude.{ℕ, suc, List, [], ◌∷◌, Option, None, Some}
use Rattle.std.specs.Ordering.{nat_cmp}
use Rattle.std.specs.FinMap.{FinMap, empty, insert}

-- what the places hold, of which the first has this number
abbrev pub placed : {X : Type 0} → ℕ → List (Option X) → FinMap nat_cmp X
placed number [] = empty
placed number (None ∷ places) = placed (suc number) places
placed number (Some x ∷ places) = insert (placed (suc number) places) number x
