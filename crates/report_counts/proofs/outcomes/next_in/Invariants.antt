use Rattle.std.proofs.Common.{◌≡◌, length}
use Rattle.report_counts.specs.Outcomes.{outcomes_in}
use Rattle.report_counts.proofs.outcomes.next_in.Given as goal

abbrev pub invariant-loop-rest : goal.invariant-loop-rest
invariant-loop-rest l = outcomes_in l.rest ≡ outcomes_in l.text

abbrev pub decreases-loop-rest : goal.decreases-loop-rest
decreases-loop-rest l = length l.rest
