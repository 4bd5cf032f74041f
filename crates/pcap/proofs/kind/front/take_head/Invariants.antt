use Rattle.std.proofs.Common.{◌≡◌, ◌-◌, ◌≤◌, length, take}
use Rattle.std.specs.Io.KnownBytes.{Consumes}
use Rattle.pcap.proofs.kind.front.take_head.Given as goal

abbrev pub invariant-loop-length : goal.invariant-loop-length
invariant-loop-length g l = record {
  fits : l.length ≤ 24;
  size : length l.octets ≡ 24;
  taken : Consumes (g.R.Input.remaining l.initial.input) (g.R.Input.remaining l.input) (take l.length l.octets);
  quiet : g.R.Input.failures l.input ≡ g.R.Input.failures l.initial.input;
}

abbrev pub decreases-loop-length : goal.decreases-loop-length
decreases-loop-length g l = 24 - l.length
