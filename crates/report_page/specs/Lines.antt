-- The lines of a text, each ended by LF, but the last maybe by the end of the text. It states no standard.
use Rattle.std.specs.Prelude.{ℕ, ◌==◌, if◌then◌else◌, Bool, List, [], ◌∷◌, filter}
use Rattle.std.specs.List.{onto_first}
use Rattle.line_words.specs.Splits.{before_octet, behind_octet}

-- the first line of a text, and what stands behind its end
abbrev pub first_line : List ℕ → List ℕ
first_line text = before_octet 10 text

abbrev pub behind_line : List ℕ → List ℕ
behind_line text = behind_octet 10 text

-- all lines
abbrev pub lines_of : List ℕ → List (List ℕ)
lines_of [] = []
lines_of (c ∷ cs) = if c == 10 then [] ∷ lines_of cs else onto_first c (lines_of cs)

-- those that pass
unfoldable pub lines_where : (List ℕ → Bool) → List ℕ → List (List ℕ)
lines_where passes text = filter passes (lines_of text)
