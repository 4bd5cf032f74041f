-- The object of a line. It states no standard.
use Rattle.std.specs.Prelude.{ℕ, ◌==◌, List, [], ◌∷◌, ◌++◌, length, drop, codes, if◌then◌else◌, Option, Some, None, slice_get, get_or}
use Rattle.serde_json.specs.Data.{Data, null, number, unsigned, string, array, object, Items, no_items, item, Members, no_members, member}
use Rattle.serde_json.specs.Written.{compact_text}
use Rattle.line_words.specs.Numbers.{number_of}
use Rattle.json_lines.specs.Outcomes.{behind_mark, joined, mark_in, place_in, words}
use Rattle.json_lines.specs.Forms.{form_of, without_last}
use Rattle.json_lines.specs.declared.forms.Word.{Word}
use Rattle.json_lines.specs.declared.forms.Word.TheVariants.{Is, Number, NumberBefore, NumberOrNothing, Text, TextBefore}
use Rattle.json_lines.specs.declared.forms.End.{End}
use Rattle.json_lines.specs.declared.forms.End.TheVariants as ends
use Rattle.json_lines.specs.declared.forms.Told.{Told}
use Rattle.json_lines.specs.declared.forms.Told.TheVariants as told
use Rattle.json_lines.specs.declared.forms.Member.{Member}
use Rattle.json_lines.specs.declared.forms.Form.{Form}

-- a number, where there is one
abbrev pub number_data : Option ℕ → Data
number_data None = null
number_data (Some n) = number (unsigned n)

-- the value of a word
abbrev pub word_data : Word → List ℕ → Data
word_data (Is text) w = string w
word_data Number w = number_data (number_of w)
word_data NumberOrNothing w = number_data (number_of w)
word_data Text w = string w
word_data (NumberBefore mark) w = number_data (number_of (without_last w))
word_data (TextBefore mark) w = string (without_last w)

-- the value of the word that a form has there
abbrev pub told_word : Option Word → List ℕ → Data
told_word None w = string []
told_word (Some kind) w = word_data kind w

-- an outcome: how many octets left at the place, or why none did
abbrev pub outcome_data : List ℕ → Data
outcome_data w =
    if mark_in w == 61
    then object
    (member (codes "octets") (number_data (number_of (behind_mark w))) (member (codes "place") (string (place_in w)) no_members))
    else object (member (codes "fault") (string (behind_mark w)) (member (codes "place") (string (place_in w)) no_members))

-- each of them
abbrev pub outcomes_data : List (List ℕ) → Items
outcomes_data [] = no_items
outcomes_data (w ∷ ws) = item (outcome_data w) (outcomes_data ws)

-- the outcomes behind the words of a form that ends with them
abbrev pub outcomes_behind : End → List (List ℕ) → List (List ℕ)
outcomes_behind ends.Here ws = []
outcomes_behind ends.Rest ws = []
outcomes_behind ends.Outcomes ws = ws

-- the value of a member, of a line of these words
abbrev pub value_of : Form → List (List ℕ) → Told → Data
value_of form ws (told.Word at) = told_word (slice_get form.words.now at) (get_or ws at [])
value_of form ws (told.Fixed text) = string text.now
value_of form ws told.Outcomes = array (outcomes_data (outcomes_behind form.end (drop (length form.words.now) ws)))
value_of form ws told.Rest = string (joined (drop (length form.words.now) ws))

-- the members by a form
abbrev pub members_by : Form → List (List ℕ) → List Member → Members
members_by form ws [] = no_members
members_by form ws (m ∷ ms) = member m.0.now (value_of form ws m.1) (members_by form ws ms)

-- the members of a line by the form that it is of, or the whole line as one text
abbrev pub told_members : Option Form → List ℕ → Members
told_members None line = member (codes "text") (string line) no_members
told_members (Some form) line = members_by form (words line) form.members.now

-- the members of a line
abbrev pub members_of : List Form → List ℕ → Members
members_of forms line = told_members (form_of forms (words line)) line

-- the object of a line as a line
unfoldable pub object_line : List Form → List ℕ → List ℕ
object_line forms line = compact_text (object (members_of forms line)) ++ codes "\n"
