use Rattle.std.proofs.Common.{◌≡◌, length}
use Rattle.user_jobs.proofs.parts.kept_sinks.Given as goal

abbrev pub invariant-loop-sink : goal.invariant-loop-sink
invariant-loop-sink l = length l.sinks.items ≡ l._sink
