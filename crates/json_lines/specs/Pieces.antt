-- The words of a line, each with those from there on. It states no standard.
use Rattle.std.specs.Prelude.{ℕ, List, [], ◌∷◌}
use Rattle.json_lines.specs.Outcomes.{words}
use Rattle.json_lines.specs.declared.line.Piece.{Piece}

-- each word, and it with those behind it
abbrev pub tails : List (List ℕ) → List (List ℕ × List (List ℕ))
tails [] = []
tails (w ∷ ws) = (w, w ∷ ws) ∷ tails ws

-- what the code holds of one
abbrev pub piece_of : Piece → List ℕ × List (List ℕ)
piece_of p = (p.word.now, words p.from.now)
