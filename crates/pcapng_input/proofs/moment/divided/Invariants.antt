use Rattle.std.proofs.Common.{◌≡◌, ◌/◌, ◌^◌, ◌≤◌}
use Rattle.pcapng_input.proofs.moment.divided.Given as goal

abbrev pub invariant-loop-time : goal.invariant-loop-time
invariant-loop-time l = record { part : l.left ≡ l.number / l.by ^ l._time; less : l.left ≤ l.number }
