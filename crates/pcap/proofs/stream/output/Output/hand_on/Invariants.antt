use Rattle.std.proofs.Common.{◌≡◌, ◌≤◌, ◌-◌, length, take}
use Rattle.std.specs.Io.KnownBytes.{Appends}
use Rattle.pcap.proofs.stream.output.Output.hand_on.Given as goal

abbrev pub invariant-loop-at : goal.invariant-loop-at
invariant-loop-at g l = record {
  fits : l.at ≤ length l.octets;
  appended : Appends (g.Self.Output.written l.initial.self) (g.Self.Output.written l.self) (take l.at l.octets);
  quiet : g.Self.Output.failures l.self ≡ g.Self.Output.failures l.initial.self;
}

abbrev pub decreases-loop-at : goal.decreases-loop-at
decreases-loop-at g l = length l.octets - l.at
