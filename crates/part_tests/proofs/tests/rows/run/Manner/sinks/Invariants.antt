use Rattle.std.proofs.Common.{◌≡◌, length}
use Rattle.part_tests.proofs.tests.rows.run.Manner.sinks.Given as goal

abbrev pub invariant-loop-index : goal.invariant-loop-index
invariant-loop-index l = length l.sinks.items ≡ l.index
