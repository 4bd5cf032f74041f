use Rattle.std.proofs.Common.{◌∙◌, ap, map, ℕ, List, None, Ok}
use Rattle.wire.specs.Frame.{Frame}
use Rattle.endpoint_core.specs.Held.{Held, settings_of}
use Rattle.endpoint_core.specs.Settings.{Settings}
use Rattle.endpoint_core.specs.State.{aged}
use Rattle.endpoint_core.specs.Kept.{state_of}
use Rattle.endpoint_core.specs.Step.{Decided, by_verdict, sent_at}
use Rattle.event_story.specs.Bridge.{bridge_facts}
use Rattle.event_story.specs.Outlets.{outlet_facts}
use Rattle.event_story.specs.Story.{told}
use Rattle.event_story.specs.declared.fact.Fact.{Fact}
use Rattle.event_story.proofs.StoryLemmas.{both-put}
use Rattle.event_story.proofs.story.sent_story.Goals as goal

pub returns : goal.returns
returns c =
    let s = state_of c.args.endpoint.now in
    let e = c.args.event.now in
    let x = c.args.came.now in
    let ps = c.args.places.now in
    let leaves : Settings → ℕ → Frame → List Fact = λ S vid f. outlet_facts S vid f (map (sent_at S vid f) ps) in
    let told_so = bridge_facts e.moment s.bridges (aged e.moment s.bridges) x None in
    let leave = ap (λ (h : Held). leaves (settings_of h) c.segment.result c.frame.result.now) c.state-state.ensures.value
    ∙ ap (λ (vid : ℕ). leaves s.bridges.settings vid c.frame.result.now) c.segment.ensures
    ∙ ap (λ (f : Frame). leaves s.bridges.settings x.vid f) c.frame.ensures in
    let all = both-put c.args.facts.items _ _ told_so (leaves (settings_of c.state-state.result.now) c.segment.result c.frame.result.now) (leaves s.bridges.settings x.vid x.frame) c.in_ok-put_facts_of_bridge.ensures c.in_ok-put_outlet_facts.ensures leave in
    c.in_ok-text.ensures ∙ ap (λ (fs : List Fact). told c.args.number e fs (Decided (by_verdict s.bridges.settings x (Ok ps)))) (c.deref.ensures.value ∙ all)
