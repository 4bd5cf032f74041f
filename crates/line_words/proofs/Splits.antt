-- The first place of an octet in a text, and what stands before it and behind it.
use Rattle.std.proofs.Common.{◌≡◌, ◌≢◌, ℕ, zero, suc, ◌+◌, ◌-◌, ◌<◌, ◌≤◌, All, Bool, true, false, cond, eqb, List, [], ◌∷◌, length, take, drop, get_or, refl, sym, ap, ◌∙◌, arith}
use Rattle.std.proofs.lemmas.Bool.{eq-eqb, ne_eqb, cond-true, cond-false}
use Rattle.std.proofs.lemmas.List.{drop-drop, get_or-drop, length-drop}
use Rattle.std.proofs.lemmas.List.Elements.{All-from_get_or, All-head, All-tail}
use Rattle.line_words.specs.Places.{IsFirst, LacksFrom}
use Rattle.line_words.specs.Splits.{before_octet, behind_octet}

-- the character isn't that one
abbrev pub IsNot : ℕ → ℕ → Type 0
IsNot other c = c ≢ other

-- ---- the first one

pub before_none : (s : ℕ) (text : List ℕ) → All (IsNot s) text → before_octet s text ≡ text
before_none s [] none = refl
before_none s (c ∷ cs) none =
    cond-false _ _ _ (ne_eqb c s (All-head (IsNot s) c cs none)) ∙ ap (λ w. c ∷ w) (before_none s cs (All-tail (IsNot s) c cs none))

pub behind_none : (s : ℕ) (text : List ℕ) → All (IsNot s) text → behind_octet s text ≡ []
behind_none s [] none = refl
behind_none s (c ∷ cs) none =
    cond-false _ _ _ (ne_eqb c s (All-head (IsNot s) c cs none)) ∙ behind_none s cs (All-tail (IsNot s) c cs none)

pub before_at : (s : ℕ) (text : List ℕ) (i : ℕ) → i < length text → get_or text i 0 ≡ s → ((k : ℕ) → k < i → get_or text k 0 ≢ s) → before_octet s text ≡ take i text
before_at s [] i inside here before = absurd (omega arith)
before_at s (c ∷ cs) zero inside here before = cond-true _ _ _ (eq-eqb c s here)
before_at s (c ∷ cs) (suc i) inside here before =
    cond-false _ _ _ (ne_eqb c s (before 0 (omega arith))) ∙ ap (λ w. c ∷ w) (before_at s cs i (omega arith) here (λ k lt. before (suc k) (omega arith)))

pub behind_at : (s : ℕ) (text : List ℕ) (i : ℕ) → i < length text → get_or text i 0 ≡ s → ((k : ℕ) → k < i → get_or text k 0 ≢ s) → behind_octet s text ≡ drop (i + 1) text
behind_at s [] i inside here before = absurd (omega arith)
behind_at s (c ∷ cs) zero inside here before = cond-true _ _ _ (eq-eqb c s here)
behind_at s (c ∷ cs) (suc i) inside here before =
    let next : suc i + 1 ≡ suc (i + 1) = omega arith in
    rw next (cond-false _ _ _ (ne_eqb c s (before 0 (omega arith))) ∙ behind_at s cs i (omega arith) here (λ k lt. before (suc k) (omega arith)))

-- ---- what stands behind it is shorter

no_longer : (s : ℕ) (text : List ℕ) → length (behind_octet s text) ≤ length text
no_longer s [] = omega arith
no_longer s (c ∷ cs) = by (eqb c s) (no_longer s cs)
  where
    by : (b : Bool) → length (behind_octet s cs) ≤ length cs → length (cond b cs (behind_octet s cs)) ≤ suc (length cs)
    by true h = omega arith
    by false h = omega arith

pub behind_shorter : (s : ℕ) (text : List ℕ) → 0 < length text → length (behind_octet s text) < length text
behind_shorter s [] h = absurd (omega arith)
behind_shorter s (c ∷ cs) h = by (eqb c s) (no_longer s cs)
  where
    by : (b : Bool) → length (behind_octet s cs) ≤ length cs → length (cond b cs (behind_octet s cs)) < suc (length cs)
    by true k = omega arith
    by false k = omega arith

-- ---- the first one from a place on

pub none_from : (s : ℕ) (text : List ℕ) (from : ℕ) → LacksFrom s text from → All (IsNot s) (drop from text)
none_from s text from lacks =
    All-from_get_or (IsNot s) (drop from text) 0
    (λ k lt e. lacks (from + k) (omega arith) (omega (arith, lt, length-drop from text)) (sym (get_or-drop from text k 0) ∙ e))

pub before_lacks : (s : ℕ) (text : List ℕ) (from : ℕ) → LacksFrom s text from → before_octet s (drop from text) ≡ drop from text
before_lacks s text from lacks = before_none s (drop from text) (none_from s text from lacks)

pub behind_lacks : (s : ℕ) (text : List ℕ) (from : ℕ) → LacksFrom s text from → behind_octet s (drop from text) ≡ []
behind_lacks s text from lacks = behind_none s (drop from text) (none_from s text from lacks)

-- where it stands first in what is left of a text from that place on
module _ (s : ℕ) (text : List ℕ) (from at : ℕ) (first : IsFirst s text from at) where
  pub left_inside : at - from < length (drop from text)
  left_inside = omega (arith, length-drop from text, first.inside, first.low)

  pub left_here : get_or (drop from text) (at - from) 0 ≡ s
  left_here =
      let there : from + (at - from) ≡ at = omega (arith, first.low) in
      get_or-drop from text (at - from) 0 ∙ ap (λ k. get_or text k 0) there ∙ first.here

  pub left_before : (k : ℕ) → k < at - from → get_or (drop from text) k 0 ≢ s
  left_before k lt e = first.before (from + k) (omega arith) (omega (arith, lt)) (sym (get_or-drop from text k 0) ∙ e)

  pub before_found : before_octet s (drop from text) ≡ take (at - from) (drop from text)
  before_found = before_at s (drop from text) (at - from) left_inside left_here left_before

  pub behind_found : behind_octet s (drop from text) ≡ drop (at + 1) text
  behind_found =
      let next : from + (at - from + 1) ≡ at + 1 = omega (arith, first.low) in
      behind_at s (drop from text) (at - from) left_inside left_here left_before
      ∙ drop-drop (at - from + 1) from text ∙ ap (λ k. drop k text) next
