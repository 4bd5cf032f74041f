use Rattle.std.proofs.Common.{◌≡◌, length}
use Rattle.std.specs.List.{list_all}
use Rattle.json_lines.specs.Outcomes.{is_outcome, words}
use Rattle.json_lines.proofs.outcomes.are_outcomes.Given as goal

abbrev pub invariant-loop-word : goal.invariant-loop-word
invariant-loop-word l = list_all is_outcome (words l.rest) ≡ list_all is_outcome (words l.text)

abbrev pub decreases-loop-word : goal.decreases-loop-word
decreases-loop-word l = length l.rest
