-- A text that is cut in two.
use Rattle.std.proofs.Common.{◌≡◌, ◌≢◌, ℕ, zero, suc, ◌+◌, ◌<◌, All, List, [], ◌∷◌, length, take, drop, get_or, Some, None, option_map, refl, ap, ◌∙◌, arith}
use Rattle.std.proofs.lemmas.Bool.{eq-eqb, ne_eqb, cond-true, cond-false}
use Rattle.std.proofs.lemmas.List.Elements.{All-head, All-tail}
use Rattle.config_text.specs.Address.{cut}

-- the byte isn't the separator
abbrev pub IsNot : ℕ → ℕ → Type 0
IsNot separator c = c ≢ separator

-- no separator
pub cut_none : (separator : ℕ) (text : List ℕ) → All (IsNot separator) text → cut separator text ≡ None
cut_none s [] none = refl
cut_none s (c ∷ cs) none =
    cond-false _ _ _ (ne_eqb c s (All-head (IsNot s) c cs none)) ∙ ap (option_map (λ h. (c ∷ h.0, h.1))) (cut_none s cs (All-tail (IsNot s) c cs none))

-- the first separator
pub cut_at_first : (separator : ℕ) (text : List ℕ) (i : ℕ) → i < length text → get_or text i 0 ≡ separator → ((k : ℕ) → k < i → get_or text k 0 ≢ separator) → cut separator text ≡ Some (take i text, drop (i + 1) text)
cut_at_first s [] i inside here before = absurd (omega arith)
cut_at_first s (c ∷ cs) zero inside here before = cond-true _ _ _ (eq-eqb c s here)
cut_at_first s (c ∷ cs) (suc i) inside here before =
    let next : suc i + 1 ≡ suc (i + 1) = omega arith in
    rw next (cond-false _ _ _ (ne_eqb c s (before 0 (omega arith))) ∙ ap (option_map (λ h. (c ∷ h.0, h.1))) (cut_at_first s cs i (omega arith) here (λ k lt. before (suc k) (omega arith))))
