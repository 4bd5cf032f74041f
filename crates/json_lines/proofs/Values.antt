-- The texts of values.
use Rattle.std.proofs.Common.{◌≡◌, ℕ, ◌<◌, ◌≤◌, Bool, true, false, cond, eqb, List, [], ◌∷◌, ◌++◌, length, take, get_or, append-nil, append_assoc, Option, Some, None, sym, refl, ap, subst, ◌≢◌, Bor, ◌∙◌, arith}
use Rattle.std.specs.Prelude.{codes, is_some, Result, Ok, Err}
use Rattle.std.specs.List.{slice_get, slice_split}
use Rattle.std.specs.declared.alloc.AllocError.{AllocError}
use Rattle.std.proofs.lemmas.Bool.{cond-false, eq-eqb, ne_eqb}
use Rattle.std.proofs.lemmas.Option.{slice_get-get_or, slice_get_past}
use Rattle.std.proofs.lemmas.List.Splits.{join_with_byte-slice_split, length-slice_split}
use Rattle.json.specs.Print.{escape_byte, quoted}
use Rattle.serde_json.specs.Data.{string, array, object, Members, no_members, member}
use Rattle.serde_json.specs.Written.{compact_text, items_text, members_text}
use Rattle.line_words.specs.Numbers.{number_of}
use Rattle.line_words.proofs.Decimals.{number_exact}
use Rattle.json_lines.proofs.Escapes.{both}
use Rattle.json_lines.specs.Outcomes.{behind_mark, is_number, is_outcome, joined, mark_in, place_in, words}
use Rattle.json_lines.specs.Forms.{ends_with, without_last, word_fits}
use Rattle.json_lines.specs.Objects.{members_by, members_of, number_data, object_line, outcome_data, outcomes_data, told_members, told_word, word_data}
use Rattle.json_lines.specs.declared.forms.Form.{Form}
use Rattle.json_lines.specs.declared.forms.Member.{Member}
use Rattle.json_lines.specs.declared.forms.Word.{Word}
use Rattle.json_lines.specs.declared.forms.Word.TheVariants.{Number, NumberBefore}
use Rattle.json_lines.specs.Texts.{lines, lines_of_parts}
use Rattle.json_lines.specs.Puts.{Puts, begun, listed, marked, sent_text, unsent_text, words_behind}
use Rattle.json_lines.proofs.Keeps.{keeps_behind, keeps_on}

-- ---- one text behind another

pub puts_then : (r : Result (Unit {0}) AllocError) (old mid new a b : List ℕ) → mid ≡ old ++ a → Puts r mid new b → Puts r old new (a ++ b)
puts_then (Ok u) old mid new a b first next = next ∙ ap (λ l. l ++ b) first ∙ append_assoc old a b
puts_then (Err e) old mid new a b first next = keeps_behind old a mid new first next

pub puts_same : (r : Result (Unit {0}) AllocError) (old new a b : List ℕ) → b ≡ a → Puts r old new a → Puts r old new b
puts_same r old new a b same put = subst (λ t. Puts r old new t) (sym same) put

pub puts_five : (r : Result (Unit {0}) AllocError) (o1 o2 o3 o4 o5 new a b c d e : List ℕ)
    → o2 ≡ o1 ++ a → o3 ≡ o2 ++ b → o4 ≡ o3 ++ c → o5 ≡ o4 ++ d → Puts r o5 new e → Puts r o1 new (a ++ (b ++ (c ++ (d ++ e))))
puts_five r o1 o2 o3 o4 o5 new a b c d e p1 p2 p3 p4 p5 =
    puts_then r o1 o2 new a (b ++ (c ++ (d ++ e))) p1 (puts_then r o2 o3 new b (c ++ (d ++ e)) p2
    (puts_then r o3 o4 new c (d ++ e) p3 (puts_then r o4 o5 new d e p4 p5)))

pub puts_on : (r : Result (Unit {0}) AllocError) (old mid new a b : List ℕ) → take (length old) mid ≡ old → mid ++ b ≡ old ++ a → Puts r mid new b → Puts r old new a
puts_on (Ok u) old mid new a b kept same next = next ∙ same
puts_on (Err e) old mid new a b kept same next = keeps_on old mid new kept next

-- ---- numbers

pub number_text : (w : List ℕ) (o : Option ℕ) → number_of w ≡ o → is_some o ≡ true → compact_text (number_data o) ≡ w
number_text w None e h = absurd cc
number_text w (Some n) e h = sym (number_exact w n e).1

pub number_same : (w : List ℕ) (n : ℕ) → number_of w ≡ Some n → compact_text (number_data (number_of w)) ≡ w
number_same w n e = number_text w (number_of w) refl (ap is_some e)

pub nothing_same : (w : List ℕ) → number_of w ≡ None → compact_text (number_data (number_of w)) ≡ codes "null"
nothing_same w e = ap (λ o. compact_text (number_data o)) e

pub number_word : (kind : Word) (w : List ℕ) → kind ≡ Number → word_fits kind w ≡ true → compact_text (word_data kind w) ≡ w
number_word kind w is fitting =
    ap (λ k. compact_text (word_data k w)) is ∙ number_text w (number_of w) refl (ap (λ k. word_fits k w) (sym is) ∙ fitting)

pub number_before : (kind : Word) (mark : ℕ) (w : List ℕ) → kind ≡ NumberBefore mark → word_fits kind w ≡ true
    → compact_text (word_data kind w) ≡ without_last w
number_before kind mark w is fitting =
    ap (λ k. compact_text (word_data k w)) is
    ∙ number_text (without_last w) (number_of (without_last w)) refl
    (both (ends_with mark w) (is_number (without_last w)) (ap (λ k. word_fits k w) (sym is) ∙ fitting)).1

pub told_same : (ks : List Word) (ws : List (List ℕ)) (at : ℕ) (d : Word) (w : List ℕ) → at < length ks → w ≡ get_or ws at []
    → compact_text (told_word (slice_get ks at) (get_or ws at [])) ≡ compact_text (word_data (get_or ks at d) w)
told_same ks ws at d w lt is =
    ap (λ o. compact_text (told_word o (get_or ws at []))) (slice_get-get_or ks at d lt) ∙ ap (λ v. compact_text (word_data (get_or ks at d) v)) (sym is)

pub told_none : (ks : List Word) (w : List ℕ) (at : ℕ) → length ks ≤ at → compact_text (told_word (slice_get ks at) w) ≡ quoted []
told_none ks w at past = ap (λ o. compact_text (told_word o w)) (slice_get_past ks at past)

pub rest_same : (o : Option (Bor (List ℕ))) (text : Bor (List ℕ)) → o ≡ Some text → compact_text (string (joined (words_behind o))) ≡ quoted text.now
rest_same o text is = ap (λ p. quoted (joined (words_behind p))) is ∙ ap quoted (join_with_byte-slice_split 32 text.now)

-- ---- outcomes

pub sent_same : (place b : List ℕ) → is_number b ≡ true
    → compact_text (object (member (codes "octets") (number_data (number_of b)) (member (codes "place") (string place) no_members))) ≡ sent_text place b
unfolding escape_byte
sent_same place b h = ap (λ t. codes "{\"octets\":" ++ (t ++ (codes ",\"place\":" ++ (quoted place ++ codes "}")))) (number_text b (number_of b) refl h)

pub unsent_same : (place b : List ℕ)
    → compact_text (object (member (codes "fault") (string b) (member (codes "place") (string place) no_members))) ≡ unsent_text place b
unfolding escape_byte
unsent_same place b = refl

-- with '=' as its mark, and with another
pub outcome_sent : (w place behind : List ℕ) (m : ℕ) → place ≡ place_in w → m ≡ mark_in w → behind ≡ behind_mark w → m ≡ 61 → is_outcome w ≡ true
    → compact_text (outcome_data w) ≡ sent_text place behind
outcome_sent w place behind m before is after mark sound =
    by (eqb (mark_in w) 61) (eq-eqb (mark_in w) 61 (sym is ∙ mark)) sound ∙ (λ i. sent_text (sym before i) (sym after i))
  where
    by : (q : Bool) → q ≡ true → cond q (is_number (behind_mark w)) (eqb (mark_in w) 33) ≡ true
        → compact_text (cond q (object (member (codes "octets") (number_data (number_of (behind_mark w))) (member (codes "place") (string (place_in w)) no_members)))
        (object (member (codes "fault") (string (behind_mark w)) (member (codes "place") (string (place_in w)) no_members)))) ≡ sent_text (place_in w) (behind_mark w)
    by true e h = sent_same (place_in w) (behind_mark w) h
    by false e h = absurd cc

pub outcome_unsent : (w place behind : List ℕ) (m : ℕ) → place ≡ place_in w → m ≡ mark_in w → behind ≡ behind_mark w → m ≢ 61
    → compact_text (outcome_data w) ≡ unsent_text place behind
outcome_unsent w place behind m before is after mark =
    by (eqb (mark_in w) 61) (ne_eqb (mark_in w) 61 (λ e. mark (is ∙ e))) ∙ (λ i. unsent_text (sym before i) (sym after i))
  where
    by : (q : Bool) → q ≡ false
        → compact_text (cond q (object (member (codes "octets") (number_data (number_of (behind_mark w))) (member (codes "place") (string (place_in w)) no_members)))
        (object (member (codes "fault") (string (behind_mark w)) (member (codes "place") (string (place_in w)) no_members)))) ≡ unsent_text (place_in w) (behind_mark w)
    by true e = absurd cc
    by false e = unsent_same (place_in w) (behind_mark w)

-- ---- one outcome after the other

pub words_some : (text : List ℕ) → 0 < length (words text)
words_some text = omega (arith, length-slice_split (λ c. eqb c 32) text)

-- a list that is closed
listed_more : (ws : List (List ℕ)) → listed 44 ws ++ 93 ∷ [] ≡ items_text true (outcomes_data ws)
listed_more [] = refl
listed_more (w ∷ ws) =
    ap (λ l. 44 ∷ l) (append_assoc (compact_text (outcome_data w)) (listed 44 ws) (93 ∷ []) ∙ ap (λ l. compact_text (outcome_data w) ++ l) (listed_more ws))

listed_all : (ws : List (List ℕ)) → 0 < length ws → listed 91 ws ++ 93 ∷ [] ≡ compact_text (array (outcomes_data ws))
listed_all [] some = absurd (omega arith)
listed_all (w ∷ ws) some =
    ap (λ l. 91 ∷ l) (append_assoc (compact_text (outcome_data w)) (listed 44 ws) (93 ∷ []) ∙ ap (λ l. compact_text (outcome_data w) ++ l) (listed_more ws))

pub listed_same : (text : List ℕ) → compact_text (array (outcomes_data (words text))) ≡ listed 91 (words text) ++ 93 ∷ []
listed_same text = sym (listed_all (words text) (words_some text))

pub next_listed : (a b rest word behind x : List ℕ) (mark : ℕ) → words rest ≡ word ∷ words behind → b ≡ a ++ mark ∷ compact_text (outcome_data word)
    → a ++ listed mark (words rest) ≡ x → b ++ listed 44 (words behind) ≡ x
next_listed a b rest word behind x mark found put before =
    ap (λ l. l ++ listed 44 (words behind)) put ∙ append_assoc a (mark ∷ compact_text (outcome_data word)) (listed 44 (words behind))
    ∙ ap (λ ws. a ++ listed mark ws) (sym found) ∙ before

pub last_listed : (r : Result (Unit {0}) AllocError) (old a new rest text : List ℕ) (mark : ℕ) → words rest ≡ rest ∷ []
    → take (length old) a ≡ old → a ++ listed mark (words rest) ≡ old ++ listed 91 (words text)
    → Puts r a new (mark ∷ compact_text (outcome_data rest)) → Puts r old new (listed 91 (words text))
last_listed r old a new rest text mark last kept same next =
    puts_on r old a new (listed 91 (words text)) (mark ∷ compact_text (outcome_data rest)) kept
    (ap (λ l. a ++ mark ∷ l) (sym (append-nil (compact_text (outcome_data rest)))) ∙ ap (λ ws. a ++ listed mark ws) (sym last) ∙ same) next

-- ---- an object that is closed

-- behind the last member
pub members_end : (form : Form) (ws : List (List ℕ)) (ms rest : List Member) (out old : List ℕ) (mark : ℕ) (e : Bool) → length rest < 1 → e ≡ eqb (length ms) 0 → e ≡ false
    → out ++ marked mark (members_by form ws rest) ≡ old ++ marked 123 (members_by form ws ms) → out ≡ old ++ begun (members_by form ws ms)
members_end form ws ms (m ∷ rest) out old mark e done is some same = absurd (omega arith)
members_end form ws [] [] out old mark e done is some same = absurd cc
members_end form ws (m ∷ ms) [] out old mark e done is some same = sym (append-nil out) ∙ same

marked_end : (ms : Members) (r : List ℕ) → marked 44 ms ++ 125 ∷ r ≡ members_text true ms ++ r
marked_end no_members r = refl
marked_end (member k d ms) r =
    ap (λ l. 44 ∷ l) (ap (λ l. l ++ 125 ∷ r) (append_assoc (quoted k) (58 ∷ compact_text d) (marked 44 ms))
    ∙ append_assoc (quoted k) (58 ∷ (compact_text d ++ marked 44 ms)) (125 ∷ r)
    ∙ ap (λ l. quoted k ++ 58 ∷ l) (append_assoc (compact_text d) (marked 44 ms) (125 ∷ r) ∙ ap (λ l. compact_text d ++ l) (marked_end ms r)
    ∙ sym (append_assoc (compact_text d) (members_text true ms) r))
    ∙ sym (append_assoc (quoted k) (58 ∷ (compact_text d ++ members_text true ms)) r))

closed : (ms : Members) (r : List ℕ) → begun ms ++ 125 ∷ r ≡ compact_text (object ms) ++ r
closed no_members r = refl
closed (member k d ms) r =
    ap (λ l. 123 ∷ l) (ap (λ l. l ++ 125 ∷ r) (append_assoc (quoted k) (58 ∷ compact_text d) (marked 44 ms))
    ∙ append_assoc (quoted k) (58 ∷ (compact_text d ++ marked 44 ms)) (125 ∷ r)
    ∙ ap (λ l. quoted k ++ 58 ∷ l) (append_assoc (compact_text d) (marked 44 ms) (125 ∷ r) ∙ ap (λ l. compact_text d ++ l) (marked_end ms r)
    ∙ sym (append_assoc (compact_text d) (members_text true ms) r))
    ∙ sym (append_assoc (quoted k) (58 ∷ (compact_text d ++ members_text true ms)) r))

pub line_closed : (forms : List Form) (line : List ℕ) → object_line forms line ≡ begun (members_of forms line) ++ codes "}\n"
unfolding object_line
line_closed forms line = sym (closed (members_of forms line) (10 ∷ []))

-- a whole line as one text
pub whole_begun : (line : List ℕ) → begun (told_members None line) ≡ codes "{\"text\":" ++ quoted line
unfolding escape_byte
whole_begun line = append-nil (codes "{\"text\":" ++ quoted line)

-- ---- lines of a text

parts_some : (c : ℕ) (text : List ℕ) → 0 < length (slice_split (λ x. eqb x c) text)
parts_some c text = omega (arith, length-slice_split (λ x. eqb x c) text)

pub lines_more : (text line behind : List ℕ) → slice_split (λ c. eqb c 10) text ≡ line ∷ slice_split (λ c. eqb c 10) behind → lines text ≡ line ∷ lines behind
lines_more text line behind found = ap lines_of_parts found ∙ by (slice_split (λ c. eqb c 10) behind) (parts_some 10 behind)
  where
    by : (parts : List (List ℕ)) → 0 < length parts → lines_of_parts (line ∷ parts) ≡ line ∷ lines_of_parts parts
    by [] some = absurd (omega arith)
    by (p ∷ ps) some = refl

pub lines_last : (text : List ℕ) → 0 < length text → slice_split (λ c. eqb c 10) text ≡ text ∷ [] → lines text ≡ text ∷ []
lines_last text some found = ap lines_of_parts found ∙ cond-false _ _ _ (ne_eqb (length text) 0 (λ e. absurd (omega (arith, e, some))))
