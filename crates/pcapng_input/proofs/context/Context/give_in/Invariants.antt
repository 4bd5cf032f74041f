use Rattle.std.proofs.Common.{◌≡◌, ◌≤◌, ◌-◌, Some, length, take}
use Rattle.pcapng_input.specs.Front.{GivesPackets}
use Rattle.pcapng_input.proofs.context.Context.give_in.Given as goal

abbrev pub invariant-loop-size : goal.invariant-loop-size
invariant-loop-size l = record {
  used : l.done.used ≤ length l.text;
  given : l.done.given ≤ length l.room;
  gives : GivesPackets l.fn.self l.self l.text l.done.used (take l.done.given l.room);
  order : l.self.order ≡ Some l.order;
}

abbrev pub decreases-loop-size : goal.decreases-loop-size
decreases-loop-size l = length l.text - l.done.used
