use Rattle.std.proofs.Common.{◌≡◌, ◌≤◌, length}
use Rattle.std.specs.Io.KnownBytes.{Consumes}
use Rattle.pcap.specs.Supply.{Spends}
use Rattle.pcapng_input.specs.Filled.{octets_left}
use Rattle.pcapng_input.proofs.filling.number_next.Given as goal

abbrev pub invariant-number : goal.invariant-number
invariant-number g l = record {
  behind : Consumes l.initial.gathered.supply.rest l.gathered.supply.rest l.gathered.held;
  few : length l.gathered.held ≤ 4;
  less : octets_left l.gathered ≤ octets_left l.initial.gathered;
  spent : Spends l.initial.gathered.supply l.gathered.supply;
  quiet : l.gathered.supply.failures ≡ l.initial.gathered.supply.failures;
}

abbrev pub decreases-number : goal.decreases-number
decreases-number g l = l.gathered.supply.reads
