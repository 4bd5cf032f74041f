use Rattle.std.proofs.Common.{◌≡◌, ◌++◌, drop}
use Rattle.std.specs.List.{AllByRecursion}
use Rattle.timeline.specs.Events.{IsEventOf}
use Rattle.timeline.specs.Order.{IsRising}
use Rattle.endpoint_core.specs.Kept.{state_of}
use Rattle.explanation.specs.Growing.{texts_from}
use Rattle.explanation.proofs.packets.put_events.Given as goal

-- with what is left put too, it is all; and the packets that are left come later
abbrev pub invariant-loop-event : goal.invariant-loop-event
invariant-loop-event l =
    let left = drop l.event-index l.events in
    record {
      all : l.text.items ++ texts_from l.depth l.values l.event-index (state_of l.endpoint) left ≡ l.fn.text.items ++ texts_from l.depth l.values 0 (state_of l.fn.endpoint) l.events;
      number : l.scratch.number ≡ l.event-index;
      rising : IsRising (state_of l.endpoint).moment left;
      known : AllByRecursion (IsEventOf 0 0) left;
    }
