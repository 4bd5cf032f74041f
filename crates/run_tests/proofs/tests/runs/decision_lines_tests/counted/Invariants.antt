use Rattle.std.proofs.Common.{◌≡◌}
use Rattle.run_tests.proofs.tests.runs.decision_lines_tests.counted.Given as goal

abbrev pub invariant-loop-event : goal.invariant-loop-event
invariant-loop-event l = l.number ≡ l._event
