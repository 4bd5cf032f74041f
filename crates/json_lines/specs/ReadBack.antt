-- The law of reading: the words of a line come back from its object. It states no standard.
--     IsWordTold      a word of a form is told, unless it is the same in each line
--     IsWhole      a form's members tell all that may be another in another line
--     AreWhole      and so those of each form of a table
use Rattle.std.specs.Prelude.{◌≡◌, ℕ, true, List, map, All, Contains, Some, slice_get}
use Rattle.serde_json.specs.Data.{object}
use Rattle.serde_json.specs.Written.{compact_text}
use Rattle.json_lines.specs.Outcomes.{words}
use Rattle.json_lines.specs.Forms.{fits}
use Rattle.json_lines.specs.Objects.{members_by}
use Rattle.json_lines.specs.declared.forms.Word.{Word}
use Rattle.json_lines.specs.declared.forms.Word.TheVariants.{Is, Number, NumberBefore, NumberOrNothing, Text, TextBefore}
use Rattle.json_lines.specs.declared.forms.End.{End}
use Rattle.json_lines.specs.declared.forms.End.TheVariants as ends
use Rattle.json_lines.specs.declared.forms.Told.{Told}
use Rattle.json_lines.specs.declared.forms.Told.TheVariants as told
use Rattle.json_lines.specs.declared.forms.Member.{Member}
use Rattle.json_lines.specs.declared.forms.Form.{Form}

-- a member tells this
abbrev pub IsTold : List Member → Told → Type 0
IsTold members what = Contains (map (λ m. m.1) members) what

-- a word of this kind in this place is told, unless the form has it as it is
abbrev pub IsWordTold : List Member → ℕ → Word → Type 0
IsWordTold members at (Is text) = Unit {0}
IsWordTold members at Number = IsTold members (told.Word at)
IsWordTold members at NumberOrNothing = IsTold members (told.Word at)
IsWordTold members at Text = IsTold members (told.Word at)
IsWordTold members at (NumberBefore mark) = IsTold members (told.Word at)
IsWordTold members at (TextBefore mark) = IsTold members (told.Word at)

-- what stands behind the words is told
abbrev pub IsEndTold : List Member → End → Type 0
IsEndTold members ends.Here = Unit {0}
IsEndTold members ends.Rest = IsTold members told.Rest
IsEndTold members ends.Outcomes = IsTold members told.Outcomes

-- a form whose members tell whatever may be another in another line
pub record IsWhole (form : Form) : Type 0 where
  pub each_word : (at : ℕ) (kind : Word) → slice_get form.words.now at ≡ Some kind → IsWordTold form.members.now at kind
  pub behind_words : IsEndTold form.members.now form.end

-- a table of such forms
unfoldable pub AreWhole : List Form → Type 0
AreWhole forms = All IsWhole forms

-- two lines of such a form with the same object are the same line
abbrev pub ReadsBack : Type 0
ReadsBack =
    (form : Form) (a b : List ℕ)
    → IsWhole form
    → fits form (words a) ≡ true
    → fits form (words b) ≡ true
    → members_by form (words a) form.members.now ≡ members_by form (words b) form.members.now
    → a ≡ b

-- and so are two of such a form whose objects have the same text
abbrev pub TextsReadBack : Type 0
TextsReadBack =
    (form : Form) (a b : List ℕ)
    → IsWhole form
    → fits form (words a) ≡ true
    → fits form (words b) ≡ true
    → compact_text (object (members_by form (words a) form.members.now)) ≡
    compact_text (object (members_by form (words b) form.members.now))
    → a ≡ b
