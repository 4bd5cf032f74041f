use Rattle.std.proofs.Common.{◌≡◌, ◌∙◌, true, false, ap, sym, subst, ℕ}
use Rattle.overlay.specs.declared.settings.change.Change.{Change}
use Rattle.timeline.specs.declared.event.Happening.{Happening}
use Rattle.endpoint_core.specs.Among.{after_untold_input, is_told, segment_in}
use Rattle.endpoint_core.specs.Change.{named}
use Rattle.endpoint_core.specs.Event.{Event as Asked, change_at}
use Rattle.endpoint_core.specs.Kept.{state_of}
use Rattle.endpoint_core.specs.Step.{after, answer}
use Rattle.segment_set.specs.Segments.{holds}
use Rattle.capture_run.specs.Outputs.{event_of, input_of, named_by}
use Rattle.capture_run.proofs.Changes.{change_there}
use Rattle.stream_run.specs.Sights.{due, untold}
use Rattle.stream_run.specs.Steps.{changes_of}
use Rattle.stream_run.proofs.Amidst.{put_at_line}
use Rattle.stream_run.proofs.Taking.{passed_over, takes_told}
use Rattle.stream_run.proofs.take.take_change_at.Goals as goal

pub returns-then-not-has-clause-taken : goal.returns-then-not-has-clause-taken
returns-then-not-has-clause-taken g c =
    let s = state_of c.args.taker.now.endpoint in
    let segments = c.args.part.now.segments.now in
    let changes = c.args.part.now.changes.now in
    let e = c.args.event.now in
    let there = sym (change_there changes c.args.index c.index-part-index.result c.requires.there) in
    let away : is_told segments s (event_of (changes_of changes) e) ≡ false =
    ap (λ (h : Happening). holds segments (segment_in s.bridges.settings (input_of (changes_of changes) h))) c.requires.is
    ∙ sym (ap (λ (x : Change). holds segments (named x)) there) ∙ sym (ap (holds segments) c.vid-named.ensures) ∙ sym c.has.ensures ∙ c.if-not-has.true in
    passed_over segments g.T.Watch.sees changes e c.args.taker.now.scratch.number s (state_of c.make_change.new.endpoint) c.args.outputs.now c.args.outputs.now c.args.watch.now c.pass_over.new.self away
    (c.make_change.ensures ∙ sym (ap (λ (h : Happening). after_untold_input e.moment s (input_of (changes_of changes) h)) c.requires.is))
    (subst (λ (n : ℕ). g.T.Watch.sees c.args.watch.now (untold (due s n e)) c.pass_over.new.self) c.value.ensures c.pass_over.ensures)

pub returns-clause-taken : goal.returns-clause-taken
returns-clause-taken g c =
    let s = state_of c.args.taker.now.endpoint in
    let segments = c.args.part.now.segments.now in
    let changes = c.args.part.now.changes.now in
    let e = c.args.event.now in
    let first = sym (change_there changes c.args.index c.index-part-index.result c.requires.there) in
    let there = sym (change_there changes c.args.index c.index-part-index-2.result c.requires.there) in
    let told : is_told segments s (event_of (changes_of changes) e) ≡ true =
    ap (λ (h : Happening). holds segments (segment_in s.bridges.settings (input_of (changes_of changes) h))) c.requires.is
    ∙ sym (ap (λ (x : Change). holds segments (named x)) first) ∙ sym (ap (holds segments) c.vid-named.ensures) ∙ sym c.has.ensures ∙ c.if-not-has.false in
    let asks = ap (λ (h : Happening). let a : Asked = record { at = e.moment; input = input_of (changes_of changes) h } in a) c.requires.is ∙ ap (change_at e.moment) (sym there) in
    takes_told segments g.T.Watch.sees changes e c.args.taker.now.scratch.number s (state_of c.take_change.new.endpoint) c.args.outputs.now c.take_change.new.outputs c.args.watch.now c.take_change.new.watch _ _ c.take_change.result
    told (ap (answer s) asks) (ap (named_by (changes_of changes)) c.requires.is ∙ ap named (sym there)) (c.take_change.ensures.state ∙ sym (ap (after s) asks))
    c.take_change.ensures.outputs (λ start o at. put_at_line c.args.taker.now.scratch.number _ o e _ start c.take_change.new.outputs c.take_change.result (c.take_change.ensures.outputs start o at)) c.take_change.ensures.seen
