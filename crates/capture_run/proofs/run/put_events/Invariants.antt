use Rattle.std.proofs.Common.{◌≡◌, drop, length, map}
use Rattle.std.specs.List.{AllByRecursion}
use Rattle.overlay.specs.declared.settings.change.TimedChange.{TimedChange}
use Rattle.timeline.specs.Events.{IsEventOf}
use Rattle.timeline.specs.Order.{IsRising}
use Rattle.endpoint_core.specs.Kept.{state_of}
use Rattle.capture_run.specs.Writing.{seen, with_events}
use Rattle.capture_run.proofs.run.put_events.Given as goal

-- with what is left put too, it is all; and the events that are left come later, at ports that are there
abbrev pub invariant-loop-event : goal.invariant-loop-event
invariant-loop-event l =
    let changes = map (λ (t : TimedChange). t.change) l.changes in
    let left = drop l.event-index l.events in
    record {
      all : with_events changes l.event-index (state_of l.endpoint) (seen l.outputs) left ≡ with_events changes 0 (state_of l.fn.endpoint) (seen l.fn.outputs) l.events;
      number : l.scratch.number ≡ l.event-index;
      rising : IsRising (state_of l.endpoint).moment left;
      known : AllByRecursion (IsEventOf (length l.changes) (length (state_of l.endpoint).bridges.settings.ports.ports)) left;
    }
