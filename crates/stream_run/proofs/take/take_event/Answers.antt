use Rattle.std.proofs.Common.{◌≡◌, ◌∙◌, ap, sym, subst, ℕ, None, true, false}
use Rattle.segment_set.specs.Segments.{holds}
use Rattle.endpoint_core.specs.Among.{is_told}
use Rattle.endpoint_core.specs.Kept.{state_of}
use Rattle.capture_run.specs.Outputs.{event_of}
use Rattle.stream_run.specs.Sights.{due, untold}
use Rattle.stream_run.specs.Steps.{changes_of}
use Rattle.stream_run.proofs.Taking.{comes_by, passed_over, takes_told}
use Rattle.stream_run.proofs.take.take_event.Goals as goal

pub returns-then-not-has-clause-taken : goal.returns-then-not-has-clause-taken
returns-then-not-has-clause-taken g c =
    let s = state_of c.args.taker.now.endpoint in
    let segments = c.args.part.now.segments.now in
    let changes = c.args.part.now.changes.now in
    let e = c.args.event.now in
    let came = comes_by (changes_of changes) s e.moment e.happening c.args.came.now (λ i change. let is = c.in-Record.is in absurd cc) c.requires.brought in
    let away : is_told segments s (event_of (changes_of changes) e) ≡ false = ap (holds segments) (came.segment ∙ sym c.segment_of.ensures) ∙ sym c.has.ensures ∙ c.if-not-has.true in
    passed_over segments g.T.Watch.sees changes e c.args.taker.now.scratch.number s (state_of c.pass.new.self) c.args.outputs.now c.args.outputs.now c.args.watch.now c.pass_over.new.self away (c.pass.ensures ∙ sym came.passes)
    (subst (λ (n : ℕ). g.T.Watch.sees c.args.watch.now (untold (due s n e)) c.pass_over.new.self) c.value.ensures c.pass_over.ensures)

pub returns-else-not-has-clause-taken : goal.returns-else-not-has-clause-taken
returns-else-not-has-clause-taken g c =
    let s = state_of c.args.taker.now.endpoint in
    let segments = c.args.part.now.segments.now in
    let changes = c.args.part.now.changes.now in
    let e = c.args.event.now in
    let came = comes_by (changes_of changes) s e.moment e.happening c.args.came.now (λ i change. let is = c.in-Record.is in absurd cc) c.requires.brought in
    let told : is_told segments s (event_of (changes_of changes) e) ≡ true = ap (holds segments) (came.segment ∙ sym c.segment_of.ensures) ∙ sym c.has.ensures ∙ c.if-not-has.false in
    takes_told segments g.T.Watch.sees changes e c.args.taker.now.scratch.number s (state_of c.take_came.new.endpoint) c.args.outputs.now c.take_came.new.outputs c.args.watch.now c.take_came.new.watch _ None c.take_came.result
    told came.answer_is came.named (c.take_came.ensures.state ∙ sym came.after_is) c.take_came.ensures.outputs c.take_came.ensures.order c.take_came.ensures.seen
