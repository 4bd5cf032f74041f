-- Lines and columns, both from 1. It states no standard.
use Rattle.std.specs.Prelude.{ℕ, ◌+◌, ◌-◌, List, [], ◌∷◌, length, ◌==◌, if◌then◌else◌}
use Rattle.text_advice.specs.Line.{past_blanks}
use Rattle.text_advice.specs.Search.{Line}
use Rattle.text_advice.specs.declared.place.Place.{Place}

-- where a line begins behind its blanks
abbrev pub place_in : Line → Place
place_in l = record { line = l.number; column = length l.text - length (past_blanks l.text) + 1 }

-- the place behind a text that begins at a line and a column: one line more for each line feed, and one column more for each
-- octet behind the last of them
abbrev pub place_behind : ℕ → ℕ → List ℕ → Place
place_behind line column [] = record { line = line; column = column }
place_behind line column (c ∷ cs) = if c == 10 then place_behind (line + 1) 1 cs else place_behind line (column + 1) cs
