use Rattle.std.proofs.Common.{◌≡◌, ◌≤◌, ◌+◌, ◌-◌, []}
use Rattle.pcap.specs.Supply.{Spends}
use Rattle.pcapng_input.specs.Filled.{IsBehind, octets_left}
use Rattle.pcapng_input.proofs.filling.pass_body.Given as goal

abbrev pub invariant-body : goal.invariant-body
invariant-body g l = record {
  part : l.left ≤ l.count;
  behind : IsBehind l.initial.gathered.supply.rest l.gathered.supply.rest (l.count - l.left);
  none : l.gathered.held ≡ [];
  less : octets_left l.gathered + (l.count - l.left) ≤ octets_left l.initial.gathered;
  spent : Spends l.initial.gathered.supply l.gathered.supply;
  quiet : l.gathered.supply.failures ≡ l.initial.gathered.supply.failures;
}

abbrev pub decreases-body : goal.decreases-body
decreases-body g l = l.gathered.supply.reads
