-- The objects of the lines of a text. It states no standard.
use Rattle.std.specs.Prelude.{ℕ, ◌==◌, List, [], ◌∷◌, length, flat_map, is_some, if◌then◌else◌}
use Rattle.std.specs.Borrow.{Bor}
use Rattle.std.specs.List.{slice_split}
use Rattle.json_lines.specs.Forms.{form_of}
use Rattle.json_lines.specs.Objects.{object_line}
use Rattle.json_lines.specs.Outcomes.{words}
use Rattle.json_lines.specs.declared.forms.Form.{Form}

-- of the parts between line feeds, an empty last one is no line
abbrev pub lines_of_parts : List (List ℕ) → List (List ℕ)
lines_of_parts [] = []
lines_of_parts (x ∷ []) = if length x == 0 then [] else x ∷ []
lines_of_parts (x ∷ y ∷ more) = x ∷ lines_of_parts (y ∷ more)

-- the lines of a text, also a last one that has no line feed
abbrev pub lines : List ℕ → List (List ℕ)
lines text = lines_of_parts (slice_split (λ c. c == 10) text)

-- the first table that has a form which a line of these words is of, or no form
abbrev pub table_for : List (Bor (List Form)) → List (List ℕ) → List Form
table_for [] ws = []
table_for (t ∷ ts) ws = if is_some (form_of t.now ws) then t.now else table_for ts ws

-- the object of a line by the first form of some tables that it is of
abbrev pub object_among : List (Bor (List Form)) → List ℕ → List ℕ
object_among tables line = object_line (table_for tables (words line)) line

-- the object of each line
abbrev pub objects_in : List (Bor (List Form)) → List ℕ → List ℕ
objects_in tables text = flat_map (object_among tables) (lines text)
