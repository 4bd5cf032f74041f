use Rattle.std.proofs.Common.{subst, List, ℕ, None}
use Rattle.filter_db.specs.declared.place.Place.{Place}
use Rattle.endpoint_core.specs.Forwarding.{decision_of}
use Rattle.endpoint_core.specs.Decision.{Decision}
use Rattle.endpoint_core.specs.Kept.{state_of}
use Rattle.endpoint_core.specs.Step.{Decided}
use Rattle.capture_run.specs.Writing.{with_input}
use Rattle.stream_run.specs.Amidst.{PutsInOrder}
use Rattle.stream_run.specs.Sights.{answered, due}
use Rattle.stream_run.specs.Stage.{Lead}
use Rattle.stream_run.proofs.take.take_came.Goals as goal

pub returns-clause-outputs : goal.returns-clause-outputs
returns-clause-outputs g c start o at =
    let new = c.put_forwarding.new.outputs in
    subst (λ (d : Decision). Lead {T = Unit {0}} start new o (with_input c.args.scratch.now.number None o c.args.event.now (Decided d)) c.put_forwarding.result) c.take.ensures.answer (c.put_forwarding.ensures.outputs start o at)

pub returns-clause-order : goal.returns-clause-order
returns-clause-order g c start o at =
    let new = c.put_forwarding.new.outputs in
    subst (λ (d : Decision). PutsInOrder {T = Unit {0}} start new c.args.scratch.now.number None o c.args.event.now (Decided d) c.put_forwarding.result) c.take.ensures.answer (c.put_forwarding.ensures.order start o at)

pub returns-clause-seen : goal.returns-clause-seen
returns-clause-seen g c =
    let state = state_of c.args.endpoint.now in
    let expected = subst (λ (n : ℕ). g.T.Watch.expects c.args.watch.now (due state n c.args.event.now) c.see.new.self) c.value-number.ensures c.see.ensures in
    let heard = subst (λ (places : List Place). g.T.Watch.sees c.args.watch.now (answered (due state c.args.scratch.now.number c.args.event.now) (Decided (decision_of (state_of c.take.new.self).bridges.settings c.take.new.forwarding places))) c.hear_decision.new.self)
    c.as_slice.ensures.value (c.hear_decision.ensures c.args.watch.now (due state c.args.scratch.now.number c.args.event.now) expected) in
    subst (λ (d : Decision). g.T.Watch.sees c.args.watch.now (answered (due state c.args.scratch.now.number c.args.event.now) (Decided d)) c.hear_decision.new.self) c.take.ensures.answer
    heard
