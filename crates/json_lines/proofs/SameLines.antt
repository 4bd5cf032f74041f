-- Lines of one form with the same object.
use Rattle.std.proofs.Common.{◌≡◌, ◌≢◌, ℕ, zero, suc, ◌+◌, ◌-◌, ◌<◌, ◌≤◌, Bool, true, false, cond, eqb, List, [], ◌∷◌, ◌++◌, length}
use Rattle.std.proofs.Common.{take, drop, get_or, map, append_assoc, inl, inr, Option, Some, None, sym, refl, ap, ◌∙◌, arith}
use Rattle.std.specs.Prelude.{◌||◌, codes, is_some, nat_lt}
use Rattle.std.specs.List.{list_all, position_or_len, slice_get}
use Rattle.std.proofs.lemmas.Bool.{cases_lt, eqb-true, ltb-true}
use Rattle.std.proofs.lemmas.List.{drop_all, get_or_past, length-append, length-map, take-append-drop}
use Rattle.std.proofs.lemmas.List.Splits.{join_with_byte-slice_split}
use Rattle.std.proofs.lemmas.Option.{slice_get-get_or}
use Rattle.std.proofs.lemmas.Slice.Eq.{bytes_eq-Decides}
use Rattle.std.proofs.Math.Seq.{drop-cons}
use Rattle.serde_json.specs.Data.{Data, null, boolean, number, string, array, object, Members, no_members, member}
use Rattle.serde_json.specs.Written.{compact_text}
use Rattle.line_words.specs.Numbers.{number_of}
use Rattle.line_words.proofs.Decimals.{number_exact}
use Rattle.json_lines.specs.Outcomes.{behind_mark, is_mark, is_number, is_outcome, joined, mark_in, place_in, words}
use Rattle.json_lines.specs.Forms.{end_fits, ends_with, fits, is_same, without_last, word_fits, words_fit}
use Rattle.json_lines.specs.Objects.{members_by, number_data, outcome_data, outcomes_behind, outcomes_data, told_word, value_of, word_data}
use Rattle.json_lines.specs.ReadBack.{IsEndTold, IsTold, IsWhole, IsWordTold, ReadsBack}
use Rattle.json_lines.specs.declared.forms.Word.{Word}
use Rattle.json_lines.specs.declared.forms.Word.TheVariants.{Is, Number, NumberBefore, NumberOrNothing, Text, TextBefore}
use Rattle.json_lines.specs.declared.forms.End.{End}
use Rattle.json_lines.specs.declared.forms.End.TheVariants as ends
use Rattle.json_lines.specs.declared.forms.Told.{Told}
use Rattle.json_lines.specs.declared.forms.Told.TheVariants as tells
use Rattle.json_lines.specs.declared.forms.Member.{Member}
use Rattle.json_lines.specs.declared.forms.Form.{Form}
use Rattle.json_lines.proofs.Escapes.{both}
use Rattle.json_lines.proofs.Fits.{fits_end, fits_words, word_fitting}

-- ---- one value

value_at : (form : Form) (us vs : List (List ℕ)) (ms : List Member) (k : ℕ) (what : Told) → k < length ms
    → get_or (map (λ m. m.1) ms) k what ≡ what → members_by form us ms ≡ members_by form vs ms
    → value_of form us what ≡ value_of form vs what
value_at form us vs [] k what lt is e = absurd (omega arith)
value_at form us vs (m ∷ ms) zero what lt is e =
    let same : value_of form us m.1 ≡ value_of form vs m.1 = cc in
    ap (value_of form us) (sym is) ∙ same ∙ ap (value_of form vs) is
value_at form us vs (m ∷ ms) (suc k) what lt is e =
    let others : members_by form us ms ≡ members_by form vs ms = cc in
    value_at form us vs ms k what (omega arith) is others

value_told : (form : Form) (us vs : List (List ℕ)) (ms : List Member) (what : Told) → IsTold ms what
    → members_by form us ms ≡ members_by form vs ms → value_of form us what ≡ value_of form vs what
value_told form us vs ms what (k, lt, is) e = value_at form us vs ms k what (omega (arith, lt, length-map ms (λ m. m.1))) is e

-- ---- the parts of a word

parts_joined : (w : List ℕ) (k : ℕ) → k < length w → w ≡ take k w ++ get_or w k 0 ∷ drop (k + 1) w
parts_joined w k lt =
    let next : k + 1 ≡ suc k = omega arith in
    sym (take-append-drop k w) ∙ ap (λ l. take k w ++ l) (drop-cons w k 0 lt) ∙ ap (λ n. take k w ++ get_or w k 0 ∷ drop n w) (sym next)

-- without its last octet, and that behind it
without_joined : (mark : ℕ) (w : List ℕ) → ends_with mark w ≡ true → w ≡ without_last w ++ mark ∷ []
without_joined mark w h =
    let parts = both (nat_lt 0 (length w)) (eqb (get_or w (length w - 1) 0) mark) h in
    let some = ltb-true 0 (length w) parts.0 in
    parts_joined w (length w - 1) (omega (arith, some))
    ∙ ap (λ c. without_last w ++ c ∷ drop (length w - 1 + 1) w) (eqb-true _ _ parts.1)
    ∙ ap (λ l. without_last w ++ mark ∷ l) (drop_all (length w - 1 + 1) w (omega (arith, some)))

marked_same : (mark : ℕ) (x y : List ℕ) → ends_with mark x ≡ true → ends_with mark y ≡ true → without_last x ≡ without_last y → x ≡ y
marked_same mark x y u v same =
    without_joined mark x u ∙ ap (λ l. l ++ mark ∷ []) same ∙ sym (without_joined mark y v)

-- ---- one word

same_text : (a b : List ℕ) → is_same a b ≡ true → a ≡ b
same_text a b h = (bytes_eq-Decides a b).0 h

word_of : Data → List ℕ
word_of null = codes "-"
word_of (boolean b) = []
word_of (number n) = compact_text (number n)
word_of (string s) = s
word_of (array ds) = []
word_of (object ms) = []

back_number : (w : List ℕ) (o : Option ℕ) → number_of w ≡ o → is_some o ≡ true → word_of (number_data o) ≡ w
unfolding word_of
back_number w None e h = absurd cc
back_number w (Some n) e h = sym (number_exact w n e).1

back_nothing : (w : List ℕ) (o : Option ℕ) → number_of w ≡ o → (is_some o || is_same w (codes "-")) ≡ true → word_of (number_data o) ≡ w
unfolding word_of
back_nothing w None e h = sym (same_text w (codes "-") h)
back_nothing w (Some n) e h = sym (number_exact w n e).1

back_text : (w : List ℕ) → word_of (string w) ≡ w
unfolding word_of
back_text w = refl

value_same : (form : Form) (us vs : List (List ℕ)) (at : ℕ) (kind : Word) → slice_get form.words.now at ≡ Some kind
    → IsTold form.members.now (tells.Word at) → members_by form us form.members.now ≡ members_by form vs form.members.now
    → word_data kind (get_or us at []) ≡ word_data kind (get_or vs at [])
value_same form us vs at kind is told same =
    ap (λ o. told_word o (get_or us at [])) (sym is) ∙ value_told form us vs form.members.now (tells.Word at) told same
    ∙ ap (λ o. told_word o (get_or vs at [])) is

word_same : (form : Form) (us vs : List (List ℕ)) (at : ℕ) (kind : Word) → slice_get form.words.now at ≡ Some kind
    → IsWordTold form.members.now at kind → members_by form us form.members.now ≡ members_by form vs form.members.now
    → word_fits kind (get_or us at []) ≡ true → word_fits kind (get_or vs at []) ≡ true → get_or us at [] ≡ get_or vs at []
word_same form us vs at (Is text) is told same u v =
    same_text (get_or us at []) text.now u ∙ sym (same_text (get_or vs at []) text.now v)
word_same form us vs at Number is told same u v =
    let x = get_or us at [] in
    let y = get_or vs at [] in
    let value = value_same form us vs at Number is told same in
    sym (back_number x (number_of x) refl u) ∙ ap word_of value ∙ back_number y (number_of y) refl v
word_same form us vs at NumberOrNothing is told same u v =
    let x = get_or us at [] in
    let y = get_or vs at [] in
    let value = value_same form us vs at NumberOrNothing is told same in
    sym (back_nothing x (number_of x) refl u) ∙ ap word_of value ∙ back_nothing y (number_of y) refl v
word_same form us vs at Text is told same u v =
    let value = value_same form us vs at Text is told same in
    sym (back_text (get_or us at [])) ∙ ap word_of value ∙ back_text (get_or vs at [])
word_same form us vs at (NumberBefore mark) is told same u v =
    let x = get_or us at [] in
    let y = get_or vs at [] in
    let value = value_same form us vs at (NumberBefore mark) is told same in
    let fu = both (ends_with mark x) (is_number (without_last x)) u in
    let fv = both (ends_with mark y) (is_number (without_last y)) v in
    let front = sym (back_number (without_last x) (number_of (without_last x)) refl fu.1) ∙ ap word_of value
    ∙ back_number (without_last y) (number_of (without_last y)) refl fv.1 in
    marked_same mark x y fu.0 fv.0 front
word_same form us vs at (TextBefore mark) is told same u v =
    let x = get_or us at [] in
    let y = get_or vs at [] in
    let value = value_same form us vs at (TextBefore mark) is told same in
    marked_same mark x y u v (sym (back_text (without_last x)) ∙ ap word_of value ∙ back_text (without_last y))

-- ---- the words of the form

long_words : (ks : List Word) (ws : List (List ℕ)) → words_fit ks ws ≡ true → length ks ≤ length ws
long_words [] ws h = omega arith
long_words (k ∷ ks) [] h = absurd cc
long_words (k ∷ ks) (w ∷ ws) h = let more = long_words ks ws (both (word_fits k w) (words_fit ks ws) h).1 in omega (arith, more)

fronts_same : (n : ℕ) (us vs : List (List ℕ)) → n ≤ length us → n ≤ length vs
    → ((k : ℕ) → k < n → get_or us k [] ≡ get_or vs k []) → take n us ≡ take n vs
fronts_same zero us vs u v each = refl
fronts_same (suc n) [] vs u v each = absurd (omega arith)
fronts_same (suc n) (x ∷ us) [] u v each = absurd (omega arith)
fronts_same (suc n) (x ∷ us) (y ∷ vs) u v each =
    let first : x ≡ y = each 0 (omega arith) in
    let others = fronts_same n us vs (omega arith) (omega arith) (λ k lt. each (suc k) (omega arith)) in
    (λ i. first i ∷ others i)

front_same : (form : Form) (us vs : List (List ℕ)) → IsWhole form → fits form us ≡ true → fits form vs ≡ true
    → members_by form us form.members.now ≡ members_by form vs form.members.now
    → take (length form.words.now) us ≡ take (length form.words.now) vs
front_same form us vs whole u v same =
    let ks = form.words.now in
    let fu = fits_words form us u in
    let fv = fits_words form vs v in
    fronts_same (length ks) us vs (long_words ks us fu) (long_words ks vs fv)
    (λ k lt. let kind = get_or ks k Text in
    let is : slice_get ks k ≡ Some kind = slice_get-get_or ks k Text lt in
    word_same form us vs k kind is (whole.each_word k kind is) same (word_fitting ks us k Text fu lt) (word_fitting ks vs k Text fv lt))

-- ---- outcomes

mark_inside : (w : List ℕ) → mark_in w ≢ 0 → position_or_len is_mark w < length w
mark_inside w some =
    elim (cases_lt (position_or_len is_mark w) (length w)) [
      | inl lt ↦ lt
      | inr ge ↦ absurd (some (get_or_past w (position_or_len is_mark w) 0 ge))
    ]

outcome_whole : (w : List ℕ) (m : ℕ) → mark_in w ≡ m → m ≢ 0 → w ≡ place_in w ++ m ∷ behind_mark w
outcome_whole w m is some =
    parts_joined w (position_or_len is_mark w) (mark_inside w (λ e. some (sym is ∙ e))) ∙ ap (λ c. place_in w ++ c ∷ behind_mark w) is

-- what an outcome's object is, by its mark
abbrev place_member : List ℕ → Members
place_member w = member (codes "place") (string (place_in w)) no_members

abbrev sent_data : List ℕ → Data
sent_data w = object (member (codes "octets") (number_data (number_of (behind_mark w))) (place_member w))

abbrev unsent_data : List ℕ → Data
unsent_data w = object (member (codes "fault") (string (behind_mark w)) (place_member w))

no_text : (o : Option ℕ) (s : List ℕ) → is_some o ≡ true → number_data o ≡ string s → ⊥
no_text None s h e = absurd cc
no_text (Some n) s h e = absurd cc

sent_same : (u v : List ℕ) → is_number (behind_mark u) ≡ true → is_number (behind_mark v) ≡ true → sent_data u ≡ sent_data v
    → (place_in u ≡ place_in v) × (behind_mark u ≡ behind_mark v)
sent_same u v fu fv e =
    let nu = number_of (behind_mark u) in
    let nv = number_of (behind_mark v) in
    let value : number_data nu ≡ number_data nv = cc in
    let place : place_in u ≡ place_in v = cc in
    (place, sym (back_number (behind_mark u) nu refl fu) ∙ ap word_of value ∙ back_number (behind_mark v) nv refl fv)

unsent_same : (u v : List ℕ) → unsent_data u ≡ unsent_data v → (place_in u ≡ place_in v) × (behind_mark u ≡ behind_mark v)
unsent_same u v e =
    let place : place_in u ≡ place_in v = cc in
    let behind : behind_mark u ≡ behind_mark v = cc in
    (place, behind)

never_same : (u v : List ℕ) → is_number (behind_mark u) ≡ true → sent_data u ≡ unsent_data v → ⊥
never_same u v fu e =
    let value : number_data (number_of (behind_mark u)) ≡ string (behind_mark v) = cc in
    no_text (number_of (behind_mark u)) (behind_mark v) fu value

by_parts : (u v : List ℕ) (m : ℕ) → mark_in u ≡ m → mark_in v ≡ m → m ≢ 0
    → (place_in u ≡ place_in v) × (behind_mark u ≡ behind_mark v) → u ≡ v
by_parts u v m mu mv some same =
    outcome_whole u m mu some ∙ (λ i. same.0 i ++ m ∷ same.1 i) ∙ sym (outcome_whole v m mv some)

outcome_same : (u v : List ℕ) → is_outcome u ≡ true → is_outcome v ≡ true → outcome_data u ≡ outcome_data v → u ≡ v
outcome_same u v fu fv e = by (eqb (mark_in u) 61) (eqb (mark_in v) 61) refl refl fu fv e
  where
    by : (p q : Bool) → eqb (mark_in u) 61 ≡ p → eqb (mark_in v) 61 ≡ q
        → cond p (is_number (behind_mark u)) (eqb (mark_in u) 33) ≡ true → cond q (is_number (behind_mark v)) (eqb (mark_in v) 33) ≡ true
        → cond p (sent_data u) (unsent_data u) ≡ cond q (sent_data v) (unsent_data v) → u ≡ v
    by true true mu mv hu hv k =
        by_parts u v 61 (eqb-true _ _ mu) (eqb-true _ _ mv) (λ z. absurd (omega (arith, z))) (sent_same u v hu hv k)
    by true false mu mv hu hv k = absurd (never_same u v hu k)
    by false true mu mv hu hv k = absurd (never_same v u hv (sym k))
    by false false mu mv hu hv k =
        by_parts u v 33 (eqb-true _ _ hu) (eqb-true _ _ hv) (λ z. absurd (omega (arith, z))) (unsent_same u v k)

outcomes_same : (us vs : List (List ℕ)) → list_all is_outcome us ≡ true → list_all is_outcome vs ≡ true
    → outcomes_data us ≡ outcomes_data vs → us ≡ vs
outcomes_same [] [] fu fv e = refl
outcomes_same [] (v ∷ vs) fu fv e = absurd cc
outcomes_same (u ∷ us) [] fu fv e = absurd cc
outcomes_same (u ∷ us) (v ∷ vs) fu fv e =
    let pu = both (is_outcome u) (list_all is_outcome us) fu in
    let pv = both (is_outcome v) (list_all is_outcome vs) fv in
    let first : outcome_data u ≡ outcome_data v = cc in
    let others : outcomes_data us ≡ outcomes_data vs = cc in
    (λ i. outcome_same u v pu.0 pv.0 first i ∷ outcomes_same us vs pu.1 pv.1 others i)

-- ---- what stands behind the words

none_left : (ws : List (List ℕ)) → eqb (length ws) 0 ≡ true → ws ≡ []
none_left [] h = refl
none_left (w ∷ ws) h = let e = eqb-true (length (w ∷ ws)) 0 h in absurd (omega (arith, e))

-- words, each with a space behind it
spaced : List (List ℕ) → List ℕ
spaced [] = []
spaced (w ∷ ws) = w ++ 32 ∷ spaced ws

joined_more : (w : List ℕ) (ws : List (List ℕ)) → 0 < length ws → joined (w ∷ ws) ≡ w ++ 32 ∷ joined ws
joined_more w [] some = absurd (omega arith)
joined_more w (v ∷ vs) some = refl

joined_front : (us vs : List (List ℕ)) → 0 < length vs → joined (us ++ vs) ≡ spaced us ++ joined vs
unfolding spaced
joined_front [] vs some = refl
joined_front (u ∷ us) vs some =
    joined_more u (us ++ vs) (omega (arith, length-append us vs, some))
    ∙ ap (λ l. u ++ 32 ∷ l) (joined_front us vs some) ∙ sym (append_assoc u (32 ∷ spaced us) (joined vs))

string_same : (s t : List ℕ) → string s ≡ string t → s ≡ t
string_same s t e = cc

array_same : (us vs : List (List ℕ)) → array (outcomes_data us) ≡ array (outcomes_data vs) → outcomes_data us ≡ outcomes_data vs
array_same us vs e = cc

lines_same : (form : Form) (us vs : List (List ℕ)) (end : End) → form.end ≡ end → IsEndTold form.members.now end
    → members_by form us form.members.now ≡ members_by form vs form.members.now
    → end_fits end (drop (length form.words.now) us) ≡ true → end_fits end (drop (length form.words.now) vs) ≡ true
    → take (length form.words.now) us ≡ take (length form.words.now) vs
    → joined (take (length form.words.now) us ++ drop (length form.words.now) us) ≡
    joined (take (length form.words.now) vs ++ drop (length form.words.now) vs)
lines_same form us vs ends.Here is told same u v front =
    let n = length form.words.now in
    (λ i. joined (front i ++ (none_left (drop n us) u ∙ sym (none_left (drop n vs) v)) i))
lines_same form us vs ends.Rest is told same u v front =
    let n = length form.words.now in
    let rest = string_same (joined (drop n us)) (joined (drop n vs)) (value_told form us vs form.members.now tells.Rest told same) in
    joined_front (take n us) (drop n us) (ltb-true _ _ u) ∙ (λ i. spaced (front i) ++ rest i)
    ∙ sym (joined_front (take n vs) (drop n vs) (ltb-true _ _ v))
lines_same form us vs ends.Outcomes is told same u v front =
    let n = length form.words.now in
    let value = ap (λ e. array (outcomes_data (outcomes_behind e (drop n us)))) (sym is)
    ∙ value_told form us vs form.members.now tells.Outcomes told same
    ∙ ap (λ e. array (outcomes_data (outcomes_behind e (drop n vs)))) is in
    let rest = outcomes_same (drop n us) (drop n vs) (both _ _ u).1 (both _ _ v).1 (array_same (drop n us) (drop n vs) value) in
    (λ i. joined (front i ++ rest i))

pub lines_read_back : ReadsBack
lines_read_back form a b whole u v same =
    let n = length form.words.now in
    sym (join_with_byte-slice_split 32 a) ∙ ap joined (sym (take-append-drop n (words a)))
    ∙ lines_same form (words a) (words b) form.end refl whole.behind_words same (fits_end form (words a) u) (fits_end form (words b) v)
    (front_same form (words a) (words b) whole u v same)
    ∙ ap joined (take-append-drop n (words b)) ∙ join_with_byte-slice_split 32 b
