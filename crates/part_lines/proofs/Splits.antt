-- Words of a text, one at a time.
use Rattle.std.proofs.Common.{◌≡◌, ◌≢◌, ℕ, zero, suc, ◌+◌, ◌-◌, ◌<◌, All, Bool, true, false, cond, eqb, List, [], ◌∷◌, length, take, drop, get_or, Option, Some, None, option_map, ap, ap₂, refl, sym, ◌∙◌, arith}
use Rattle.std.specs.Prelude.{◌&&◌}
use Rattle.std.specs.List.{filter_map, cons_option, count_by, list_all}
use Rattle.std.proofs.lemmas.Bool.{eq-eqb, ne_eqb, cond-true, cond-false}
use Rattle.std.proofs.lemmas.List.{drop-drop}
use Rattle.std.proofs.lemmas.List.Elements.{All-head, All-tail}
use Rattle.std.proofs.lemmas.List.Sums.{sum_by-cons}
use Rattle.line_words.specs.Places.{IsFirst, LacksFrom}
use Rattle.timeline.specs.declared.source.Tap.{Tap}
use Rattle.line_words.specs.Words.{word, behind}
use Rattle.line_words.proofs.Splits.{IsNot, left_before, left_here, left_inside, none_from}
use Rattle.part_lines.specs.Words.{words, begun_by, before_equals}
use Rattle.part_lines.specs.Sent.{has_places, is_sound, sent_by, sent_in}

-- ---- the first '='

pub before_none : (text : List ℕ) → All (IsNot 61) text → before_equals text ≡ None
before_none [] none = refl
before_none (c ∷ cs) none =
    cond-false _ _ _ (ne_eqb c 61 (All-head (IsNot 61) c cs none)) ∙ ap (option_map (λ w. c ∷ w)) (before_none cs (All-tail (IsNot 61) c cs none))

pub before_at : (text : List ℕ) (i : ℕ) → i < length text → get_or text i 0 ≡ 61 → ((k : ℕ) → k < i → get_or text k 0 ≢ 61) → before_equals text ≡ Some (take i text)
before_at [] i inside here before = absurd (omega arith)
before_at (c ∷ cs) zero inside here before = cond-true _ _ _ (eq-eqb c 61 here)
before_at (c ∷ cs) (suc i) inside here before =
    cond-false _ _ _ (ne_eqb c 61 (before 0 (omega arith))) ∙ ap (option_map (λ w. c ∷ w)) (before_at cs i (omega arith) here (λ k lt. before (suc k) (omega arith)))

pub equals_lacks : (text : List ℕ) (from : ℕ) → LacksFrom 61 text from → before_equals (drop from text) ≡ None
equals_lacks text from lacks = before_none (drop from text) (none_from 61 text from lacks)

pub equals_found : (text : List ℕ) (from at : ℕ) → IsFirst 61 text from at → before_equals (drop from text) ≡ Some (take (at - from) (drop from text))
equals_found text from at first =
    before_at (drop from text) (at - from) (left_inside 61 text from at first) (left_here 61 text from at first) (left_before 61 text from at first)

-- ---- the spaces

no_spaces : (text : List ℕ) → All (IsNot 32) text → count_by (λ c. eqb c 32) text ≡ 0
no_spaces [] none = refl
no_spaces (c ∷ cs) none =
    sum_by-cons (λ x. cond (eqb x 32) 1 0) c cs
    ∙ ap₂ (λ x y. x + y) (cond-false _ _ _ (ne_eqb c 32 (All-head (IsNot 32) c cs none))) (no_spaces cs (All-tail (IsNot 32) c cs none))

one_space : (text : List ℕ) (i : ℕ) → i < length text → get_or text i 0 ≡ 32 → ((k : ℕ) → k < i → get_or text k 0 ≢ 32)
    → count_by (λ c. eqb c 32) text ≡ 1 + count_by (λ c. eqb c 32) (drop (suc i) text)
one_space [] i inside here before = absurd (omega arith)
one_space (c ∷ cs) zero inside here before =
    sum_by-cons (λ x. cond (eqb x 32) 1 0) c cs ∙ ap (λ n. n + count_by (λ x. eqb x 32) cs) (cond-true _ _ _ (eq-eqb c 32 here))
one_space (c ∷ cs) (suc i) inside here before =
    let first = sum_by-cons (λ x. cond (eqb x 32) 1 0) c cs in
    let none = cond-false {A = ℕ} (eqb c 32) 1 0 (ne_eqb c 32 (before 0 (omega arith))) in
    let more = one_space cs i (omega arith) here (λ k lt. before (suc k) (omega arith)) in
    omega (arith, first, none, more)

pub spaces_lacks : (text : List ℕ) (from : ℕ) → LacksFrom 32 text from → count_by (λ c. eqb c 32) (drop from text) ≡ 0
spaces_lacks text from lacks = no_spaces (drop from text) (none_from 32 text from lacks)

pub spaces_found : (text : List ℕ) (from at : ℕ) → IsFirst 32 text from at
    → count_by (λ c. eqb c 32) (drop from text) ≡ count_by (λ c. eqb c 32) (drop (at + 1) text) + 1
spaces_found text from at first =
    let next : from + suc (at - from) ≡ at + 1 = omega (arith, first.low) in
    let one = one_space (drop from text) (at - from) (left_inside 32 text from at first) (left_here 32 text from at first) (left_before 32 text from at first) in
    let same = ap (count_by (λ c. eqb c 32)) (drop-drop (suc (at - from)) from text ∙ ap (λ k. drop k text) next) in
    omega (arith, one, same)

-- ---- a word at a time

-- the words behind the first
words_tail : List ℕ → List (List ℕ)
words_tail [] = []
words_tail (c ∷ cs) = cond (eqb c 32) (words cs) (words_tail cs)

words_begin : (t : List ℕ) → words t ≡ word t ∷ words_tail t
unfolding words_tail
words_begin [] = refl
words_begin (c ∷ cs) = by (eqb c 32) (words_begin cs)
  where
    by : (b : Bool) → words cs ≡ word cs ∷ words_tail cs → cond b ([] ∷ words cs) (begun_by c (words cs)) ≡ cond b [] (c ∷ word cs) ∷ cond b (words cs) (words_tail cs)
    by true begin = refl
    by false begin = ap (begun_by c) begin

-- what comes of the words behind the first, if an empty word adds nothing
of_tail : {B : Type 0} (f : List (List ℕ) → B) → f [] ≡ f (words []) → (t : List ℕ) → f (words_tail t) ≡ f (words (behind t))
unfolding words_tail
of_tail f none [] = none
of_tail f none (c ∷ cs) = by (eqb c 32) (of_tail f none cs)
  where
    by : (b : Bool) → f (words_tail cs) ≡ f (words (behind cs)) → f (cond b (words cs) (words_tail cs)) ≡ f (words (cond b cs (behind cs)))
    by true same = refl
    by false same = same

-- what the first word gives, and then what stands behind it; an empty word gives nothing
module _ {B : Type 0} (f : List ℕ → Option B) (none : f [] ≡ None) where
  pub each_step : (t : List ℕ) → filter_map f (words t) ≡ cons_option (f (word t)) (filter_map f (words (behind t)))
  each_step t = ap (filter_map f) (words_begin t) ∙ ap (cons_option (f (word t))) (of_tail (filter_map f) (sym (ap (λ o. cons_option o []) none)) t)

  pub each_found : (t : List ℕ) (b : B) → f (word t) ≡ Some b → filter_map f (words t) ≡ b ∷ filter_map f (words (behind t))
  each_found t b e = each_step t ∙ ap (λ o. cons_option o (filter_map f (words (behind t)))) e

  pub each_skipped : (t : List ℕ) → f (word t) ≡ None → filter_map f (words t) ≡ filter_map f (words (behind t))
  each_skipped t e = each_step t ∙ ap (λ o. cons_option o (filter_map f (words (behind t)))) e

-- whether each word passes: the first, and those behind it
pub all_step : (p : List ℕ → Bool) → p [] ≡ true → (t : List ℕ) → list_all p (words t) ≡ (p (word t) && list_all p (words (behind t)))
all_step p none t = ap (list_all p) (words_begin t) ∙ ap (λ b. p (word t) && b) (of_tail (list_all p) (sym (ap (λ b. b && true) none)) t)

-- ---- what was sent

pub sent_step : (t : List ℕ) → sent_in t ≡ cons_option (sent_by (word t)) (sent_in (behind t))
sent_step = each_step sent_by refl

pub sent_found : (t : List ℕ) (tap : Tap) → sent_by (word t) ≡ Some tap → sent_in t ≡ tap ∷ sent_in (behind t)
sent_found = each_found sent_by refl

pub sent_skipped : (t : List ℕ) → sent_by (word t) ≡ None → sent_in t ≡ sent_in (behind t)
sent_skipped = each_skipped sent_by refl

-- whether each word is sound
pub places_step : (t : List ℕ) → has_places t ≡ (is_sound (word t) && has_places (behind t))
places_step = all_step is_sound refl
