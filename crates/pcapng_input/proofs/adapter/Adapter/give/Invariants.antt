use Rattle.std.proofs.Common.{◌≡◌, ◌<◌, length}
use Rattle.pcap.specs.Supply.{Spends}
use Rattle.pcapng_input.specs.Adapter.{KeepsTold, told}
use Rattle.pcapng_input.specs.State.{steps_at}
use Rattle.pcapng_input.proofs.adapter.Adapter.give.Given as goal

abbrev pub invariant-loop-self : goal.invariant-loop-self
invariant-loop-self g l = record {
  kept : KeepsTold (told l.initial.self) (told l.self);
  spent : Spends l.initial.self.below.supply l.self.below.supply;
  quiet : l.self.below.supply.failures ≡ l.initial.self.below.supply.failures;
  some : 0 < length l.octets;
}

abbrev pub decreases-loop-self : goal.decreases-loop-self
decreases-loop-self g l = steps_at l.self.stand l.self.below
