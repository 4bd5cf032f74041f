use Rattle.std.proofs.Common.{◌≡◌, length}
use Rattle.stream_jobs.proofs.devices.digest_sinks.Given as goal

abbrev pub invariant-loop-sink : goal.invariant-loop-sink
invariant-loop-sink l = length l.sinks.items ≡ l._sink
