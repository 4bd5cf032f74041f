use Rattle.std.proofs.Common.{◌≤◌, ◌+◌, ◌*◌, length}
use Rattle.run_tests.proofs.tests.runs.decision_lines_tests.put_remotes.Given as goal

abbrev pub invariant-loop-index : goal.invariant-loop-index
invariant-loop-index l = length l.line ≤ length l.fn.line + 77 * l.index
