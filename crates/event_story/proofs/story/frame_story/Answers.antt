use Rattle.std.proofs.Common.{◌∙◌, ap, List, ◌++◌}
use Rattle.overlay.specs.Ports.{Ports}
use Rattle.endpoint_core.specs.Held.{Held, settings_of}
use Rattle.endpoint_core.specs.Kept.{state_of}
use Rattle.event_story.specs.Local.{local_facts_of}
use Rattle.event_story.specs.declared.fact.Fact.{Fact}
use Rattle.event_story.proofs.StoryLemmas.{came-told}
use Rattle.event_story.proofs.story.frame_story.Goals as goal

pub returns : goal.returns
returns c =
    let s = state_of c.args.endpoint.now in
    let b = c.args.octets.now in
    let came = c.frame_from-came.result in
    let own = c.ports-ports.ensures.value ∙ ap (λ (h : Held). (settings_of h).ports) c.state.ensures.value in
    let saw = c.in_ok-put_local_facts.ensures
    ∙ ap (λ (fs : List Fact). fs ++ local_facts_of c.ports-ports.result.now c.args.port c.args.original b came) c.in_ok-facts.ensures.items
    ∙ ap (λ (p : Ports). local_facts_of p c.args.port c.args.original b came) own in
    c.in_ok-text.ensures
    ∙ came-told c.args.number c.args.event.now s (local_facts_of s.bridges.settings.ports c.args.port c.args.original b) _ came _ saw c.frame_from-came.ensures.value
