use Rattle.std.proofs.Common.{◌∙◌, ap, sym, subst, List, Ok}
use Rattle.filter_db.specs.declared.place.Place.{Place}
use Rattle.tunnel_learning.specs.Verdict.{put_or}
use Rattle.endpoint_core.specs.Kept.{state_of}
use Rattle.event_story.proofs.StoryLemmas.{TellsVerdict, asked}
use Rattle.event_story.proofs.story.bridge_story.Goals as goal

pub returns-in-Ok : goal.returns-in-Ok
returns-in-Ok c =
    let kept = c.args.endpoint.now in
    let e = c.args.event.now in
    let x = c.args.came.now in
    let is = ap (λ (ps : List Place). Ok ps) c.as_slice.ensures.value ∙ ap (put_or c.foresee-sent.new.places.items) (sym c.in-Ok.is) ∙ c.foresee-sent.ensures.verdict
    ∙ asked c.state-state.result.now kept.held kept.moment e.moment c.segment.result c.place.result c.frame.result.now x c.state-state.ensures.value c.requires.time c.segment.ensures c.place.ensures c.frame.ensures in
    subst (TellsVerdict (state_of kept) c.args.number e c.args.facts.items x c.sent_story.result) is c.sent_story.ensures

pub returns-in-Err : goal.returns-in-Err
returns-in-Err c =
    let kept = c.args.endpoint.now in
    let e = c.args.event.now in
    let x = c.args.came.now in
    let is = ap (put_or c.foresee-sent.new.places.items) (sym c.in-Err.is) ∙ c.foresee-sent.ensures.verdict
    ∙ asked c.state-state.result.now kept.held kept.moment e.moment c.segment.result c.place.result c.frame.result.now x c.state-state.ensures.value c.requires.time c.segment.ensures c.place.ensures c.frame.ensures in
    subst (TellsVerdict (state_of kept) c.args.number e c.args.facts.items x c.dropped_story.result) is c.dropped_story.ensures
