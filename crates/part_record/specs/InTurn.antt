-- The lines of some things in turn, each with its number. It states no standard.
use Rattle.std.specs.Prelude.{ℕ, ◌+◌, List, [], ◌∷◌, ◌++◌}

-- those of things of which the first has this number
abbrev pub lines_in_turn : {X : Type 0} → (ℕ → X → List ℕ) → ℕ → List X → List ℕ
lines_in_turn line number [] = []
lines_in_turn line number (x ∷ xs) = line number x ++ lines_in_turn line (number + 1) xs
