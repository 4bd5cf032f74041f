use Rattle.std.proofs.Common.{◌≡◌}
use Rattle.run_tests.proofs.tests.runs.decision_lines_tests.first_wrong.Given as goal

abbrev pub invariant-loop-count : goal.invariant-loop-count
invariant-loop-count l = l.number ≡ l.count-counter
