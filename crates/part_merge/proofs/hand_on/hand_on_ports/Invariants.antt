use Rattle.std.proofs.Common.{◌≡◌, map}
use Rattle.part_merge.specs.Blame.{sink_health}
use Rattle.part_merge.proofs.Handing.{EachKept}
use Rattle.part_merge.proofs.Waits.{OutBefore}
use Rattle.part_merge.proofs.hand_on.hand_on_ports.Given as goal

-- nothing more was written, no output failed, and those in front hold nothing back
abbrev pub invariant-loop-i : goal.invariant-loop-i
invariant-loop-i g l = record {
  out : OutBefore l.i l.port_sinks;
  kept : EachKept l.initial.port_sinks l.port_sinks;
  writes : map sink_health l.port_sinks ≡ map sink_health l.initial.port_sinks;
}
