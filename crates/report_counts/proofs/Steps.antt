-- Words of a text, one at a time.
use Rattle.std.proofs.Common.{◌≡◌, ℕ, ◌<◌, List, ◌∷◌, length, Some, None, refl}
use Rattle.std.specs.Prelude.{◌&&◌}
use Rattle.line_words.specs.Words.{behind, word}
use Rattle.line_words.proofs.Splits.{behind_shorter as shorter}
use Rattle.part_lines.proofs.Splits.{all_step, each_found, each_skipped}
use Rattle.report_counts.specs.Outcomes.{Told, are_outcomes, is_outcome, outcome_of, outcomes_in}

-- ---- what stands behind the first word is shorter

pub behind_shorter : (t : List ℕ) → 0 < length t → length (behind t) < length t
behind_shorter = shorter 32

-- ---- a word at a time

pub outcomes_found : (t : List ℕ) (o : Told) → outcome_of (word t) ≡ Some o → outcomes_in t ≡ o ∷ outcomes_in (behind t)
outcomes_found = each_found outcome_of refl

pub outcomes_skipped : (t : List ℕ) → outcome_of (word t) ≡ None → outcomes_in t ≡ outcomes_in (behind t)
outcomes_skipped = each_skipped outcome_of refl

-- whether each word tells an outcome
pub are_step : (t : List ℕ) → are_outcomes t ≡ (is_outcome (word t) && are_outcomes (behind t))
are_step = all_step is_outcome refl
