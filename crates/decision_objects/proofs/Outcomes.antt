-- Outcomes that are put one behind another.
use Rattle.std.proofs.Common.{◌≡◌, ◌∙◌, ap, sym, ℕ, zero, suc, ◌+◌, ◌<◌, Bool, true, false, List, [], ◌∷◌, ◌++◌, length, map, take, get_or, append_assoc, add-one, arith}
use Rattle.std.proofs.lemmas.List.{append-nil}
use Rattle.filter_db.specs.declared.place.Place.{Place}
use Rattle.endpoint_core.specs.Decision.{Sent}
use Rattle.decision_objects.specs.Objects.{further_text, gap, outcome_text, outcomes_text}

-- whether it is none
abbrev pub is_none : ℕ → Bool
is_none zero = true
is_none (suc i) = false

module _ (two : Bool) (f : Place → Sent) (none : Place) where
  further_next : (places : List Place) (i : ℕ) → i < length places
      → further_text two (map f (take (suc i) places)) ≡ further_text two (map f (take i places)) ++ 44 ∷ outcome_text two (f (get_or places i none))
  further_next [] i h = absurd (omega (arith, h))
  further_next (p ∷ ps) zero h = ap (λ (t : List ℕ). 44 ∷ t) (append-nil (outcome_text two (f p)))
  further_next (p ∷ ps) (suc i) h =
      let here = outcome_text two (f p) in
      let front = further_text two (map f (take i ps)) in
      let last = outcome_text two (f (get_or ps i none)) in
      ap (λ (t : List ℕ). 44 ∷ (here ++ t)) (further_next ps i (omega (arith, h))) ∙ sym (ap (λ (t : List ℕ). 44 ∷ t) (append_assoc here front (44 ∷ last)))

  pub first_outcome : (places : List Place) → 0 < length places → outcomes_text two (map f (take 1 places)) ≡ outcome_text two (f (get_or places 0 none))
  first_outcome [] h = absurd (omega (arith, h))
  first_outcome (p ∷ ps) h = append-nil (outcome_text two (f p))

  pub next_outcome : (places : List Place) (i : ℕ) → suc i < length places
      → outcomes_text two (map f (take (suc (suc i)) places)) ≡ outcomes_text two (map f (take (suc i) places)) ++ 44 ∷ outcome_text two (f (get_or places (suc i) none))
  next_outcome [] i h = absurd (omega (arith, h))
  next_outcome (p ∷ ps) i h =
      let here = outcome_text two (f p) in
      let front = further_text two (map f (take i ps)) in
      let last = outcome_text two (f (get_or ps i none)) in
      ap (λ (t : List ℕ). here ++ t) (further_next ps i (omega (arith, h))) ∙ sym (append_assoc here front (44 ∷ last))

  by_first : (places : List Place) (i : ℕ) (first : Bool) → i < length places → first ≡ is_none i
      → outcomes_text two (map f (take (suc i) places)) ≡ outcomes_text two (map f (take i places)) ++ (gap first ++ outcome_text two (f (get_or places i none)))
  by_first places zero first h is = first_outcome places h ∙ ap (λ (b : Bool). gap b ++ outcome_text two (f (get_or places 0 none))) (sym is)
  by_first places (suc i) first h is = next_outcome places i h ∙ ap (λ (b : Bool). outcomes_text two (map f (take (suc i) places)) ++ (gap b ++ outcome_text two (f (get_or places (suc i) none)))) (sym is)

  -- one more, behind a comma where it isn't the first
  pub one_more : (places : List Place) (i : ℕ) (first : Bool) → i < length places → first ≡ is_none i
      → outcomes_text two (map f (take (i + 1) places)) ≡ outcomes_text two (map f (take i places)) ++ (gap first ++ outcome_text two (f (get_or places i none)))
  one_more places i first h is = ap (λ (n : ℕ). outcomes_text two (map f (take n places))) (add-one i) ∙ by_first places i first h is
