use Rattle.std.proofs.Common.{◌≡◌, length}
use Rattle.runs_on_files.proofs.unwritten.unwritten_sinks.Given as goal

abbrev pub invariant-loop-port : goal.invariant-loop-port
invariant-loop-port l = length l.sinks.items ≡ l._port
