use Rattle.std.proofs.Common.{◌≡◌, ◌≤◌}
use Rattle.pcap.specs.Supply.{Spends}
use Rattle.pcapng_input.specs.Filled.{KeepsText, octets_left}
use Rattle.pcapng_input.proofs.filling.fill.Given as goal

abbrev pub invariant-filling : goal.invariant-filling
invariant-filling g l = record {
  same : KeepsText l.initial.gathered l.gathered;
  less : octets_left l.gathered ≤ octets_left l.initial.gathered;
  spent : Spends l.initial.gathered.supply l.gathered.supply;
  quiet : l.gathered.supply.failures ≡ l.initial.gathered.supply.failures;
}

abbrev pub decreases-filling : goal.decreases-filling
decreases-filling g l = l.gathered.supply.reads
