-- Forms that are whole, told by a computation.
use Rattle.std.proofs.Common.{◌≡◌, ℕ, zero, suc, ◌+◌, Bool, true, false, eqb, List, [], ◌∷◌}
use Rattle.std.proofs.Common.{Some, refl, ap, subst, arith}
use Rattle.std.specs.Prelude.{All, ◌&&◌, ◌||◌}
use Rattle.std.specs.List.{list_all, list_any, slice_get}
use Rattle.std.proofs.lemmas.Bool.{eqb-true}
use Rattle.json_lines.specs.declared.forms.Word.{Word}
use Rattle.json_lines.specs.declared.forms.Word.TheVariants.{Is, Number, NumberBefore, NumberOrNothing, Text, TextBefore}
use Rattle.json_lines.specs.declared.forms.End.{End}
use Rattle.json_lines.specs.declared.forms.End.TheVariants as ends
use Rattle.json_lines.specs.declared.forms.Told.{Told}
use Rattle.json_lines.specs.declared.forms.Told.TheVariants as tells
use Rattle.json_lines.specs.declared.forms.Member.{Member}
use Rattle.json_lines.specs.declared.forms.Form.{Form}
use Rattle.json_lines.proofs.Escapes.{both}
use Rattle.json_lines.specs.ReadBack.{AreWhole, IsEndTold, IsTold, IsWhole, IsWordTold}

-- ---- the tests

abbrev pub is_word : ℕ → Told → Bool
is_word at (tells.Word k) = eqb k at
is_word at (tells.Fixed text) = false
is_word at tells.Outcomes = false
is_word at tells.Rest = false

abbrev pub is_rest : Told → Bool
is_rest (tells.Word k) = false
is_rest (tells.Fixed text) = false
is_rest tells.Outcomes = false
is_rest tells.Rest = true

abbrev pub is_outcomes : Told → Bool
is_outcomes (tells.Word k) = false
is_outcomes (tells.Fixed text) = false
is_outcomes tells.Outcomes = true
is_outcomes tells.Rest = false

-- a member tells something that passes
abbrev pub tells_some : (Told → Bool) → List Member → Bool
tells_some test ms = list_any (λ m. test m.1) ms

abbrev pub word_told : List Member → ℕ → Word → Bool
word_told ms at (Is text) = true
word_told ms at Number = tells_some (is_word at) ms
word_told ms at NumberOrNothing = tells_some (is_word at) ms
word_told ms at Text = tells_some (is_word at) ms
word_told ms at (NumberBefore mark) = tells_some (is_word at) ms
word_told ms at (TextBefore mark) = tells_some (is_word at) ms

-- each of these words is told, the first of which is in this place
abbrev pub words_told : List Member → ℕ → List Word → Bool
words_told ms at [] = true
words_told ms at (k ∷ ks) = word_told ms at k && words_told ms (suc at) ks

abbrev pub end_told : List Member → End → Bool
end_told ms ends.Here = true
end_told ms ends.Rest = tells_some is_rest ms
end_told ms ends.Outcomes = tells_some is_outcomes ms

abbrev pub is_whole : Form → Bool
is_whole form = words_told form.members.now 0 form.words.now && end_told form.members.now form.end

-- ---- what they say

word_is : (at : ℕ) (what : Told) → is_word at what ≡ true → what ≡ tells.Word at
word_is at (tells.Word k) h = ap tells.Word (eqb-true k at h)
word_is at (tells.Fixed text) h = absurd cc
word_is at tells.Outcomes h = absurd cc
word_is at tells.Rest h = absurd cc

rest_is : (what : Told) → is_rest what ≡ true → what ≡ tells.Rest
rest_is (tells.Word k) h = absurd cc
rest_is (tells.Fixed text) h = absurd cc
rest_is tells.Outcomes h = absurd cc
rest_is tells.Rest h = refl

outcomes_is : (what : Told) → is_outcomes what ≡ true → what ≡ tells.Outcomes
outcomes_is (tells.Word k) h = absurd cc
outcomes_is (tells.Fixed text) h = absurd cc
outcomes_is tells.Outcomes h = refl
outcomes_is tells.Rest h = absurd cc

-- what a test takes for this alone is told, where a member passes it
told_by : (test : Told → Bool) (what : Told) → ((t : Told) → test t ≡ true → t ≡ what)
    → (ms : List Member) → tells_some test ms ≡ true → IsTold ms what
told_by test what only [] h = absurd cc
told_by test what only (m ∷ ms) h = by (test m.1) refl h (told_by test what only ms)
  where
    by : (q : Bool) → test m.1 ≡ q → (q || list_any (λ m. test m.1) ms) ≡ true
        → (list_any (λ m. test m.1) ms ≡ true → IsTold ms what) → IsTold (m ∷ ms) what
    by true is some others = (0, omega arith, only m.1 is)
    by false is some others = let (k, lt, same) = others some in (suc k, omega (arith, lt), same)

word_there : (ms : List Member) (at : ℕ) (kind : Word) → word_told ms at kind ≡ true → IsWordTold ms at kind
word_there ms at (Is text) h = tt
word_there ms at Number h = told_by (is_word at) (tells.Word at) (word_is at) ms h
word_there ms at NumberOrNothing h = told_by (is_word at) (tells.Word at) (word_is at) ms h
word_there ms at Text h = told_by (is_word at) (tells.Word at) (word_is at) ms h
word_there ms at (NumberBefore mark) h = told_by (is_word at) (tells.Word at) (word_is at) ms h
word_there ms at (TextBefore mark) h = told_by (is_word at) (tells.Word at) (word_is at) ms h

words_there : (ms : List Member) (first : ℕ) (ks : List Word) → words_told ms first ks ≡ true
    → (at place : ℕ) (kind : Word) → first + at ≡ place → slice_get ks at ≡ Some kind → IsWordTold ms place kind
words_there ms first [] h at place kind there is = absurd cc
words_there ms first (k ∷ ks) h zero place kind there is =
    let same : k ≡ kind = cc in
    let here : first ≡ place = omega (arith, there) in
    subst (λ w. IsWordTold ms place w) same (subst (λ n. IsWordTold ms n k) here (word_there ms first k (both _ _ h).0))
words_there ms first (k ∷ ks) h (suc at) place kind there is =
    words_there ms (suc first) ks (both _ _ h).1 at place kind (omega (arith, there)) is

end_there : (ms : List Member) (end : End) → end_told ms end ≡ true → IsEndTold ms end
end_there ms ends.Here h = tt
end_there ms ends.Rest h = told_by is_rest tells.Rest rest_is ms h
end_there ms ends.Outcomes h = told_by is_outcomes tells.Outcomes outcomes_is ms h

whole_form : (form : Form) → is_whole form ≡ true → IsWhole form
whole_form form h =
    let ms = form.members.now in
    record {
      each_word = λ at kind is. words_there ms 0 form.words.now (both _ _ h).0 at at kind (omega arith) is;
      behind_words = end_there ms form.end (both _ _ h).1;
    }

each_form : (forms : List Form) → list_all is_whole forms ≡ true → All IsWhole forms
each_form [] h k d lt = absurd (omega (arith, lt))
each_form (f ∷ fs) h zero d lt = whole_form f (both _ _ h).0
each_form (f ∷ fs) h (suc k) d lt = each_form fs (both _ _ h).1 k d (omega (arith, lt))

pub whole_forms : (forms : List Form) → list_all is_whole forms ≡ true → AreWhole forms
unfolding AreWhole
whole_forms forms h = each_form forms h
