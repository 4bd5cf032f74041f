use Rattle.std.proofs.Common.{◌∙◌, ap, sym, subst, ◌+◌, ◌<◌, arith, ◌∷◌, drop, length, map}
use Rattle.std.specs.List.{AllByRecursion}
use Rattle.overlay.specs.declared.settings.change.TimedChange.{TimedChange}
use Rattle.timeline.specs.Events.{IsEventOf}
use Rattle.timeline.specs.Order.{IsRising}
use Rattle.endpoint_core.specs.Kept.{state_of}
use Rattle.endpoint_core.specs.Step.{State}
use Rattle.capture_run.specs.Outputs.{event_of}
use Rattle.capture_run.specs.Writing.{seen, with_events}
use Rattle.capture_run.proofs.Changes.{left_is, ports_stay}
use Rattle.capture_run.proofs.run.put_events.Goals as goal

pub loop-event-preserved : goal.loop-event-preserved
loop-event-preserved c =
    let changes = map (λ (t : TimedChange). t.change) c.args.changes.now in
    let events = c.args.events.now in
    let index = c.loop-event.event-index in
    let bound : index < length events = omega (arith, c.loop-event-test.true) in
    let left = left_is events index c.event-item.result bound ∙ ap (λ e. e ∷ drop (index + 1) events) (sym c.event-item.is) in
    let state = c.in_ok-put_event.ensures.state in
    let event = event_of changes c.event-item.result in
    let number = c.add_one.ensures ∙ ap (λ n. n + 1) c.loop-event.invariant.number in
    record {
      number = c.in_ok-put_event.ensures.number ∙ number;
      all = rw (state, c.in_ok-put_event.ensures.outputs, number) (sym (ap (with_events changes index (state_of c.loop-event.endpoint) (seen c.loop-event.outputs)) left) ∙ c.loop-event.invariant.all);
      rising = subst (λ m. IsRising m (drop (index + 1) events)) (sym (ap (λ (s : State). s.moment) state)) (subst (IsRising (state_of c.loop-event.endpoint).moment) left c.loop-event.invariant.rising).1;
      known = subst (λ p. AllByRecursion (IsEventOf (length c.args.changes.now) p) (drop (index + 1) events))
          (sym (ap (λ (s : State). length s.bridges.settings.ports.ports) state ∙ ports_stay (state_of c.loop-event.endpoint) event))
          (subst (AllByRecursion (IsEventOf (length c.args.changes.now) (length (state_of c.loop-event.endpoint).bridges.settings.ports.ports))) left c.loop-event.invariant.known).1;
    }
