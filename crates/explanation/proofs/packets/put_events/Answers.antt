use Rattle.std.proofs.Common.{◌∙◌, ap, sym, subst, ℕ, ◌+◌, ◌<◌, arith, List, ◌∷◌, ◌++◌, drop, length, append_assoc}
use Rattle.std.specs.List.{AllByRecursion}
use Rattle.timeline.specs.Events.{IsEventOf}
use Rattle.timeline.specs.Order.{IsRising}
use Rattle.endpoint_core.specs.Kept.{state_of}
use Rattle.endpoint_core.specs.Step.{State}
use Rattle.capture_run.proofs.Changes.{left_is}
use Rattle.explanation.specs.Growing.{text_at, texts_from}
use Rattle.explanation.proofs.packets.put_events.Goals as goal

pub loop-event-preserved : goal.loop-event-preserved
loop-event-preserved c =
    let events = c.args.events.now in
    let index = c.loop-event.event-index in
    let depth = c.args.depth in
    let values = c.args.values in
    let state_before = state_of c.loop-event.endpoint in
    let bound : index < length events = omega (arith, c.loop-event-test.true) in
    let left = left_is events index c.event-item.result bound ∙ ap (λ e. e ∷ drop (index + 1) events) (sym c.event-item.is) in
    let state = c.in_ok-put_event.ensures.state in
    let text = text_at depth values (index + 1) state_before c.event-item.result in
    let number = c.add_one.ensures ∙ ap (λ (n : ℕ). n + 1) c.loop-event.invariant.number in
    record {
      number = c.in_ok-put_event.ensures.number ∙ number;
      all = ap (λ (x : List ℕ). x ++ texts_from depth values (index + 1) (state_of c.put_event.new.endpoint) (drop (index + 1) events)) (c.in_ok-put_event.ensures.text ∙ ap (λ (n : ℕ). c.loop-event.text.items ++ text_at depth values n state_before c.event-item.result) number)
          ∙ append_assoc c.loop-event.text.items text (texts_from depth values (index + 1) (state_of c.put_event.new.endpoint) (drop (index + 1) events))
          ∙ ap (λ (s : State). c.loop-event.text.items ++ (text ++ texts_from depth values (index + 1) s (drop (index + 1) events))) state
          ∙ sym (ap (λ es. c.loop-event.text.items ++ texts_from depth values index state_before es) left)
          ∙ c.loop-event.invariant.all;
      rising = subst (λ m. IsRising m (drop (index + 1) events)) (sym (ap (λ (s : State). s.moment) state)) (subst (IsRising state_before.moment) left c.loop-event.invariant.rising).1;
      known = (subst (AllByRecursion (IsEventOf 0 0)) left c.loop-event.invariant.known).1;
    }
