use Rattle.std.proofs.Common.{◌∙◌, ap, ℕ, List, [], ◌++◌, Some}
use Rattle.wire.specs.Refusal.{within}
use Rattle.wire.specs.declared.ether.reason.Refused.{Refused}
use Rattle.endpoint_core.specs.State.{aged}
use Rattle.endpoint_core.specs.Decision.{refused_as}
use Rattle.endpoint_core.specs.Kept.{state_of}
use Rattle.endpoint_core.specs.Step.{Decided}
use Rattle.event_story.specs.Bridge.{bridge_facts}
use Rattle.event_story.specs.Story.{told}
use Rattle.event_story.specs.declared.fact.Fact.{Fact}
use Rattle.event_story.proofs.StoryLemmas.{none-put}
use Rattle.event_story.proofs.story.dropped_story.Goals as goal

pub returns : goal.returns
returns c =
    let s = state_of c.args.endpoint.now in
    let e = c.args.event.now in
    let told_so = bridge_facts e.moment s.bridges (aged e.moment s.bridges) c.args.came.now (Some c.args.reason) in
    let facts = c.args.facts.items in
    let all = none-put facts _ told_so c.in_ok-put_facts_of_bridge.ensures in
    let nowhere = c.within-refused.ensures ∙ ap (λ (vid : ℕ). within vid c.args.reason) c.segment.ensures in
    c.in_ok-text.ensures
    ∙ ap (λ (fs : List Fact). told c.args.number e fs (Decided (refused_as c.within-refused.result))) (c.deref.ensures.value ∙ all)
    ∙ ap (λ (r : Refused). told c.args.number e (facts ++ (told_so ++ [])) (Decided (refused_as r))) nowhere
