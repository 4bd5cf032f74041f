use Rattle.std.proofs.Common.{◌≡◌, ◌+◌, ◌*◌, ◌≤◌, ◌-◌, length, take}
use Rattle.std.specs.Io.KnownBytes.{Consumes, prepend_known}
use Rattle.pcap.specs.Record.{longest}
use Rattle.pcap.specs.Supply.{Spends}
use Rattle.pcap.proofs.stream.supply.Supply.fill.Given as goal

abbrev pub invariant-loop-at : goal.invariant-loop-at
invariant-loop-at g l = record {
  fits : l.at ≤ l.end;
  behind : l.held ≤ l.at;
  same : length l.octets ≡ length l.initial.octets;
  taken : Consumes (prepend_known (take l.held l.initial.octets) l.initial.self.rest) l.self.rest (take l.at l.octets);
  quiet : l.self.failures ≡ l.initial.self.failures;
  no_end : l.self.ends ≡ l.initial.self.ends;
  spent : Spends l.initial.self l.self;
  thrift : l.initial.self.reads + l.held ≤ l.self.reads + l.at;
  whole : l.initial.self.reads + l.held ≤ l.self.reads + l.wanted;
  brings : l.at + l.self.reads * longest ≤ l.held + l.initial.self.reads * longest;
}

abbrev pub decreases-loop-at : goal.decreases-loop-at
decreases-loop-at g l = l.end - l.at
