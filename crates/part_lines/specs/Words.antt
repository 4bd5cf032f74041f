-- The words of a decision line, and the sign between a place and what was sent there. It states no standard.
use Rattle.std.specs.Prelude.{ℕ, ◌==◌, List, [], ◌∷◌, if◌then◌else◌, Option, Some, None, option_map}

-- a character put in front of the first word
abbrev pub begun_by : ℕ → List (List ℕ) → List (List ℕ)
begun_by c [] = (c ∷ []) ∷ []
begun_by c (w ∷ ws) = (c ∷ w) ∷ ws

-- the words of a text, as many as it has spaces and one more
abbrev pub words : List ℕ → List (List ℕ)
words [] = [] ∷ []
words (c ∷ cs) = if c == 32 then [] ∷ words cs else begun_by c (words cs)

-- what stands before the first '=', where there is one
abbrev pub before_equals : List ℕ → Option (List ℕ)
before_equals [] = None
before_equals (c ∷ cs) = if c == 61 then Some [] else option_map (λ w. c ∷ w) (before_equals cs)
