-- Which lines are of a form. It states no standard.
use Rattle.std.specs.Prelude.{ℕ, ◌-◌, ◌==◌, nat_le, nat_lt, nat_eq, Bool, true, false, ◌&&◌, ◌||◌, List, [], ◌∷◌, length, drop}
use Rattle.std.specs.Prelude.{take, slice_index, codes, Option, find}
use Rattle.std.specs.List.{list_all}
use Rattle.std.specs.Cmp.Lexicographic.{pointwise}
use Rattle.json_lines.specs.Outcomes.{is_number, is_outcome}
use Rattle.json_lines.specs.declared.forms.Word.{Word}
use Rattle.json_lines.specs.declared.forms.Word.TheVariants.{Is, Number, NumberBefore, NumberOrNothing, Text, TextBefore}
use Rattle.json_lines.specs.declared.forms.End.{End}
use Rattle.json_lines.specs.declared.forms.End.TheVariants as ends
use Rattle.json_lines.specs.declared.forms.Form.{Form}

-- one text is the other
abbrev pub is_same : List ℕ → List ℕ → Bool
is_same a b = pointwise nat_eq a b

-- a word without its last octet
abbrev pub without_last : List ℕ → List ℕ
without_last w = take (length w - 1) w

-- a word ends with this octet
abbrev pub ends_with : ℕ → List ℕ → Bool
ends_with mark w = nat_lt 0 (length w) && slice_index w (length w - 1) == mark

-- a word is as a form has it
abbrev pub word_fits : Word → List ℕ → Bool
word_fits (Is text) w = is_same w text.now
word_fits Number w = is_number w
word_fits NumberOrNothing w = is_number w || is_same w (codes "-")
word_fits Text w = true
word_fits (NumberBefore mark) w = ends_with mark w && is_number (without_last w)
word_fits (TextBefore mark) w = ends_with mark w

-- the first words of a line are
abbrev pub words_fit : List Word → List (List ℕ) → Bool
words_fit [] ws = true
words_fit (k ∷ ks) [] = false
words_fit (k ∷ ks) (w ∷ ws) = word_fits k w && words_fit ks ws

-- and so are those behind them
abbrev pub end_fits : End → List (List ℕ) → Bool
end_fits ends.Here ws = length ws == 0
end_fits ends.Rest ws = nat_lt 0 (length ws)
end_fits ends.Outcomes ws = nat_lt 0 (length ws) && list_all is_outcome ws

-- a line of these words is of the form
unfoldable pub fits : Form → List (List ℕ) → Bool
fits form ws = nat_le (length form.words.now) 18 && (words_fit form.words.now ws && end_fits form.end (drop (length form.words.now) ws))

-- the first form that a line of these words is of
abbrev pub form_of : List Form → List (List ℕ) → Option Form
form_of forms ws = find (λ form. fits form ws) forms
