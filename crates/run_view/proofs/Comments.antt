-- Lines, as far as comments tell them.
use Rattle.std.proofs.Common.{◌≡◌, ◌∙◌, ap, sym, ℕ, ◌+◌, ◌<◌, ◌≤◌, Bool, true, false, cond, List, ◌∷◌, ◌++◌, length, map, drop, get_or, append_assoc}
use Rattle.std.proofs.lemmas.List.{drop_more, take-append-le}
use Rattle.filter_db.specs.declared.place.Place.{Place}
use Rattle.endpoint_core.specs.Decision.{Sent}
use Rattle.endpoint_core.specs.Text.{further_text, outcome_text, outcomes_text}
use Rattle.decision_lines.specs.Outcomes.{gap}
use Rattle.run_view.specs.Blocks.{comment_of, longest_comment}

-- where a comment is full, it doesn't matter what stands behind
pub comment_full : (line x y : List ℕ) → longest_comment ≤ length line → comment_of (line ++ x) ≡ comment_of (line ++ y)
unfolding comment_of
comment_full line x y h = take-append-le longest_comment line x h ∙ sym (take-append-le longest_comment line y h)

-- one outcome more, and those behind it
pub one_outcome : (first two : Bool) (line new : List ℕ) (o : Sent) (rest : List Sent) → new ≡ line ++ (gap first ++ outcome_text two o)
    → new ++ further_text two rest ≡ line ++ cond first (outcomes_text two (o ∷ rest)) (further_text two (o ∷ rest))
one_outcome true two line new o rest is = ap (λ (t : List ℕ). t ++ further_text two rest) is ∙ append_assoc line (outcome_text two o) (further_text two rest)
one_outcome false two line new o rest is = ap (λ (t : List ℕ). t ++ further_text two rest) is ∙ append_assoc line (32 ∷ outcome_text two o) (further_text two rest)

-- those that are left are the next one and those behind it
pub left_is : (f : Place → Sent) (places : List Place) (i : ℕ) (none : Place) → i < length places → map f (drop i places) ≡ f (get_or places i none) ∷ map f (drop (i + 1) places)
left_is f places i none h = ap (map f) (drop_more places i none h)
