-- Where the first line of a text ends, whatever stands behind the text.
use Rattle.std.proofs.Common.{◌≡◌, ◌≢◌, ℕ, zero, suc, Bool, true, false, ◌+◌, ◌<◌, ◌≤◌, List, [], ◌∷◌, ◌++◌, ◌==◌, length, length-take, take, drop, get_or, refl, sym, ap, ◌∙◌, arith, length-append, inl, inr}
use Rattle.std.proofs.lemmas.Bool.{cases_lt, eq-eqb, ne_eqb, cond-true, cond-false}
use Rattle.std.proofs.lemmas.List.{get_or-take}
use Rattle.line_stream.specs.Filled.{EndsAt, HasNoEnd}
use Rattle.line_stream.specs.Lines.{behind_line, first_line, has_line}

pub first_none : (text more : List ℕ) → ((k : ℕ) → k < length text → get_or text k 0 ≢ 10) → first_line (text ++ more) ≡ text ++ first_line more
first_none [] more none = refl
first_none (c ∷ cs) more none =
    cond-false _ _ _ (ne_eqb c 10 (none 0 (omega arith))) ∙ ap (λ l. c ∷ l) (first_none cs more (λ k lt. none (suc k) (omega arith)))

pub behind_none : (text more : List ℕ) → ((k : ℕ) → k < length text → get_or text k 0 ≢ 10) → behind_line (text ++ more) ≡ behind_line more
behind_none [] more none = refl
behind_none (c ∷ cs) more none =
    cond-false _ _ _ (ne_eqb c 10 (none 0 (omega arith))) ∙ behind_none cs more (λ k lt. none (suc k) (omega arith))

pub first_at : (text more : List ℕ) (i : ℕ) → i < length text → get_or text i 0 ≡ 10 → ((k : ℕ) → k < i → get_or text k 0 ≢ 10) → first_line (text ++ more) ≡ take (i + 1) text
first_at [] more i inside here before = absurd (omega arith)
first_at (c ∷ cs) more zero inside here before = cond-true _ _ _ (eq-eqb c 10 here)
first_at (c ∷ cs) more (suc i) inside here before =
    let next : suc i + 1 ≡ suc (i + 1) = omega arith in
    rw next (cond-false _ _ _ (ne_eqb c 10 (before 0 (omega arith))) ∙ ap (λ l. c ∷ l) (first_at cs more i (omega arith) here (λ k lt. before (suc k) (omega arith))))

pub behind_at : (text more : List ℕ) (i : ℕ) → i < length text → get_or text i 0 ≡ 10 → ((k : ℕ) → k < i → get_or text k 0 ≢ 10) → behind_line (text ++ more) ≡ drop (i + 1) text ++ more
behind_at [] more i inside here before = absurd (omega arith)
behind_at (c ∷ cs) more zero inside here before = cond-true _ _ _ (eq-eqb c 10 here)
behind_at (c ∷ cs) more (suc i) inside here before =
    let next : suc i + 1 ≡ suc (i + 1) = omega arith in
    rw next (cond-false _ _ _ (ne_eqb c 10 (before 0 (omega arith))) ∙ behind_at cs more i (omega arith) here (λ k lt. before (suc k) (omega arith)))

-- ---- a search that goes on where another ended

pub none_in_nothing : HasNoEnd []
none_in_nothing = record { none = λ k inside. absurd (omega (arith, inside)) }

seen_none : (text : List ℕ) (seen k : ℕ) → HasNoEnd (take seen text) → k < seen → k < length text → get_or text k 0 ≢ 10
seen_none text seen k none early inside is =
    none.none k (omega (arith, length-take seen text, early, inside)) (get_or-take seen text k 0 early ∙ is)

pub none_before : (text : List ℕ) (seen at : ℕ) → HasNoEnd (take seen text) → ((k : ℕ) → seen ≤ k → k < at → get_or text k 0 ≢ 10) → at < length text
    → (k : ℕ) → k < at → get_or text k 0 ≢ 10
none_before text seen at none between inside k early =
    elim (cases_lt k seen) [
      | inl low ↦ seen_none text seen k none low (omega (arith, early, inside))
      | inr high ↦ between k high early
    ]

pub none_behind : (text : List ℕ) (seen : ℕ) → HasNoEnd (take seen text) → ((k : ℕ) → seen ≤ k → k < length text → get_or text k 0 ≢ 10) → HasNoEnd text
none_behind text seen none from = record {
  none = λ k inside.
      elim (cases_lt k seen) [
        | inl low ↦ seen_none text seen k none low inside
        | inr high ↦ from k high inside
      ];
}

-- ---- whether there is one

held_none : (text : List ℕ) → ((k : ℕ) → k < length text → get_or text k 0 ≢ 10) → has_line text ≡ false
held_none [] none = refl
held_none (c ∷ cs) none = cond-false _ _ _ (ne_eqb c 10 (none 0 (omega arith))) ∙ held_none cs (λ k lt. none (suc k) (omega arith))

pub none_held : (text : List ℕ) → HasNoEnd text → has_line text ≡ false
none_held text none = held_none text none.none

no_first : (text : List ℕ) → has_line text ≡ false → first_line (text ++ 10 ∷ []) ≡ text ++ 10 ∷ []
no_first [] is = refl
no_first (c ∷ cs) is = by (c == 10) refl (no_first cs)
  where
    by : (b : Bool) → (c == 10) ≡ b → (has_line cs ≡ false → first_line (cs ++ 10 ∷ []) ≡ cs ++ 10 ∷ []) → first_line (c ∷ cs ++ 10 ∷ []) ≡ c ∷ cs ++ 10 ∷ []
    by true at behind = let never : true ≡ false = sym (cond-true _ _ _ at) ∙ is in absurd cc
    by false at behind = cond-false _ _ _ at ∙ ap (λ l. c ∷ l) (behind (sym (cond-false _ _ _ at) ∙ is))

pub one_held : (text : List ℕ) (end : ℕ) → EndsAt text end → has_line text ≡ true
one_held text end ends = by (has_line text) refl
  where
    by : (b : Bool) → has_line text ≡ b → has_line text ≡ true
    by true is = is
    by false is =
        let same : take end text ≡ text ++ 10 ∷ [] = sym (ends.first (10 ∷ [])) ∙ no_first text is in
        absurd (omega (arith, ap length same, length-append text (10 ∷ []), length-take end text))
