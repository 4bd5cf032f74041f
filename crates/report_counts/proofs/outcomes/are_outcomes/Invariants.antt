use Rattle.std.proofs.Common.{◌≡◌, length}
use Rattle.report_counts.specs.Outcomes.{are_outcomes}
use Rattle.report_counts.proofs.outcomes.are_outcomes.Given as goal

abbrev pub invariant-loop-rest : goal.invariant-loop-rest
invariant-loop-rest l = are_outcomes l.rest ≡ are_outcomes l.text

abbrev pub decreases-loop-rest : goal.decreases-loop-rest
decreases-loop-rest l = length l.rest
