-- Objects of lines with the same text.
use Rattle.std.proofs.Common.{◌≡◌, ℕ, ◌<◌, ◌≤◌, ◌^◌, Bool, true, false, cond, eqb, List, [], ◌∷◌, drop, length, get_or, Option, Some, None}
use Rattle.std.proofs.Common.{option_map, sym, refl, ap, ◌∙◌, arith}
use Rattle.std.specs.Prelude.{⊤, codes}
use Rattle.std.specs.List.{slice_get}
use Rattle.json.specs.Json as json
use Rattle.json.specs.Tree as tree
use Rattle.json.proofs.Printed.Trees.{document-print}
use Rattle.json.proofs.Printed.Decimals.{IsNumber-decimal}
use Rattle.serde_json.specs.Data.{Num, unsigned, negative, float, Data, null, boolean, number, string, array, object}
use Rattle.serde_json.specs.Data.{Items, no_items, item, Members, no_members, member, depth, items_depth, members_depth}
use Rattle.serde_json.specs.Written.{compact_text, outline, items_outline, members_outline}
use Rattle.serde_json.proofs.Texts.{print-outline}
use Rattle.line_words.specs.Numbers.{number_of}
use Rattle.line_words.proofs.Decimals.{number_decimal, number_exact}
use Rattle.json_lines.specs.Outcomes.{behind_mark, mark_in, place_in, words}
use Rattle.json_lines.specs.Forms.{without_last}
use Rattle.json_lines.specs.Objects.{members_by, number_data, outcome_data, outcomes_behind, outcomes_data, told_word, value_of, word_data}
use Rattle.json_lines.specs.declared.forms.Word.{Word}
use Rattle.json_lines.specs.declared.forms.Word.TheVariants.{Is, Number, NumberBefore, NumberOrNothing, Text, TextBefore}
use Rattle.json_lines.specs.declared.forms.Told.{Told}
use Rattle.json_lines.specs.declared.forms.Told.TheVariants as tells
use Rattle.json_lines.specs.declared.forms.Member.{Member}
use Rattle.json_lines.specs.declared.forms.Form.{Form}
use Rattle.json_lines.specs.ReadBack.{TextsReadBack}
use Rattle.json_lines.proofs.SameLines.{lines_read_back}

-- ---- values that their text tells

-- a whole number of 64 bits
abbrev IsShort : Num → Type 0
IsShort (unsigned n) = n < 2 ^ 64
IsShort (negative z) = ⊥
IsShort (float x) = ⊥

-- each number of a value is one
abbrev mutual
  AreShort : Data → Type 0
  AreShort null = ⊤
  AreShort (boolean b) = ⊤
  AreShort (number n) = IsShort n
  AreShort (string s) = ⊤
  AreShort (array ds) = ItemsShort ds
  AreShort (object ms) = MembersShort ms

  ItemsShort : Items → Type 0
  ItemsShort no_items = ⊤
  ItemsShort (item d ds) = AreShort d × ItemsShort ds

  MembersShort : Members → Type 0
  MembersShort no_members = ⊤
  MembersShort (member k d ms) = AreShort d × MembersShort ms

-- the value that a text's JSON is of
abbrev mutual
  back : json.Json → Data
  back json.null = null
  back (json.boolean b) = boolean b
  back (json.number s) = number_data (number_of s)
  back (json.string s) = string s
  back (json.array js) = array (items_back js)
  back (json.object ms) = object (members_back ms)

  items_back : json.Items → Items
  items_back json.no_items = no_items
  items_back (json.item j js) = item (back j) (items_back js)

  members_back : json.Members → Members
  members_back json.no_members = no_members
  members_back (json.member k j ms) = member k (back j) (members_back ms)

mutual
  back_outline : (d : Data) → AreShort d → back (outline d) ≡ d
  back_outline null h = refl
  back_outline (boolean b) h = refl
  back_outline (number (unsigned n)) h = ap number_data (number_decimal n h)
  back_outline (number (negative z)) h = absurd h
  back_outline (number (float x)) h = absurd h
  back_outline (string s) h = refl
  back_outline (array ds) h = ap array (back_items ds h)
  back_outline (object ms) h = ap object (back_members ms h)

  back_items : (ds : Items) → ItemsShort ds → items_back (items_outline ds) ≡ ds
  back_items no_items h = refl
  back_items (item d ds) h = (λ i. item (back_outline d h.0 i) (back_items ds h.1 i))

  back_members : (ms : Members) → MembersShort ms → members_back (members_outline ms) ≡ ms
  back_members no_members h = refl
  back_members (member k d ms) h = (λ i. member k (back_outline d h.0 i) (back_members ms h.1 i))

mutual
  numbers : (d : Data) → AreShort d → tree.HasNumbers (outline d)
  numbers null h = tt
  numbers (boolean b) h = tt
  numbers (number (unsigned n)) h = IsNumber-decimal n h
  numbers (number (negative z)) h = absurd h
  numbers (number (float x)) h = absurd h
  numbers (string s) h = tt
  numbers (array ds) h = items_numbers ds h
  numbers (object ms) h = members_numbers ms h

  items_numbers : (ds : Items) → ItemsShort ds → tree.ItemsHaveNumbers (items_outline ds)
  items_numbers no_items h = tt
  items_numbers (item d ds) h = (numbers d h.0, items_numbers ds h.1)

  members_numbers : (ms : Members) → MembersShort ms → tree.MembersHaveNumbers (members_outline ms)
  members_numbers no_members h = tt
  members_numbers (member k d ms) h = (numbers d h.0, members_numbers ms h.1)

mutual
  depths : (d : Data) → tree.depth (outline d) ≤ depth d
  depths null = omega arith
  depths (boolean b) = omega arith
  depths (number n) = omega arith
  depths (string s) = omega arith
  depths (array ds) = omega (arith, items_depths ds)
  depths (object ms) = omega (arith, members_depths ms)

  items_depths : (ds : Items) → tree.items_depth (items_outline ds) ≤ items_depth ds
  items_depths no_items = omega arith
  items_depths (item d ds) = omega (arith, depths d, items_depths ds)

  members_depths : (ms : Members) → tree.members_depth (members_outline ms) ≤ members_depth ms
  members_depths no_members = omega arith
  members_depths (member k d ms) = omega (arith, depths d, members_depths ms)

-- such a value, no deeper than this
abbrev IsSimple : ℕ → Data → Type 0
IsSimple n d = AreShort d × (depth d ≤ n)

text_back : (d : Data) → IsSimple 128 d → option_map back (json.document (compact_text d)) ≡ Some d
text_back d h =
    ap (λ t. option_map back (json.document t)) (sym (print-outline d))
    ∙ ap (option_map back) (document-print (outline d) (numbers d h.0) (omega (arith, depths d, h.1))) ∙ ap Some (back_outline d h.0)

text_same : (d e : Data) → IsSimple 128 d → IsSimple 128 e → compact_text d ≡ compact_text e → d ≡ e
text_same d e h k same =
    let both : Some d ≡ Some e = sym (text_back d h) ∙ ap (λ t. option_map back (json.document t)) same ∙ text_back e k in
    cc

-- ---- what a line's members tell is such a value

simple_number : (w : List ℕ) (o : Option ℕ) → number_of w ≡ o → IsSimple 0 (number_data o)
simple_number w None e = (tt, omega arith)
simple_number w (Some n) e = ((number_exact w n e).0, omega arith)

simple_word : (kind : Word) (w : List ℕ) → IsSimple 0 (word_data kind w)
simple_word (Is text) w = (tt, omega arith)
simple_word Number w = simple_number w (number_of w) refl
simple_word NumberOrNothing w = simple_number w (number_of w) refl
simple_word Text w = (tt, omega arith)
simple_word (NumberBefore mark) w = simple_number (without_last w) (number_of (without_last w)) refl
simple_word (TextBefore mark) w = (tt, omega arith)

simple_told : (o : Option Word) (w : List ℕ) → IsSimple 0 (told_word o w)
simple_told None w = (tt, omega arith)
simple_told (Some kind) w = simple_word kind w

simple_outcome : (w : List ℕ) → IsSimple 1 (outcome_data w)
simple_outcome w = by (eqb (mark_in w) 61)
  where
    by : (q : Bool) → IsSimple 1 (cond q
        (object (member (codes "octets") (number_data (number_of (behind_mark w)))
        (member (codes "place") (string (place_in w)) no_members)))
        (object (member (codes "fault") (string (behind_mark w)) (member (codes "place") (string (place_in w)) no_members))))
    by true = let n = simple_number (behind_mark w) (number_of (behind_mark w)) refl in ((n.0, (tt, tt)), omega (arith, n.1))
    by false = ((tt, (tt, tt)), omega arith)

simple_outcomes : (ws : List (List ℕ)) → ItemsShort (outcomes_data ws) × (items_depth (outcomes_data ws) ≤ 1)
simple_outcomes [] = (tt, omega arith)
simple_outcomes (w ∷ ws) =
    let first = simple_outcome w in
    let others = simple_outcomes ws in
    ((first.0, others.0), omega (arith, first.1, others.1))

simple_value : (form : Form) (ws : List (List ℕ)) (what : Told) → IsSimple 2 (value_of form ws what)
simple_value form ws (tells.Word at) =
    let told = simple_told (slice_get form.words.now at) (get_or ws at []) in
    (told.0, omega (arith, told.1))
simple_value form ws (tells.Fixed text) = (tt, omega arith)
simple_value form ws tells.Outcomes =
    let all = simple_outcomes (outcomes_behind form.end (drop (length form.words.now) ws)) in
    (all.0, omega (arith, all.1))
simple_value form ws tells.Rest = (tt, omega arith)

simple_members : (form : Form) (ws : List (List ℕ)) (ms : List Member)
    → MembersShort (members_by form ws ms) × (members_depth (members_by form ws ms) ≤ 2)
simple_members form ws [] = (tt, omega arith)
simple_members form ws (m ∷ ms) =
    let first = simple_value form ws m.1 in
    let others = simple_members form ws ms in
    ((first.0, others.0), omega (arith, first.1, others.1))

simple_object : (form : Form) (ws : List (List ℕ)) → IsSimple 128 (object (members_by form ws form.members.now))
simple_object form ws =
    let all = simple_members form ws form.members.now in
    (all.0, omega (arith, all.1))

members_same : (l m : Members) → object l ≡ object m → l ≡ m
members_same l m e = cc

pub texts_read_back : TextsReadBack
texts_read_back form a b whole u v same =
    let l = members_by form (words a) form.members.now in
    let m = members_by form (words b) form.members.now in
    lines_read_back form a b whole u v
    (members_same l m (text_same (object l) (object m) (simple_object form (words a)) (simple_object form (words b)) same))
