use Rattle.std.proofs.Common.{◌∙◌, ap, List, ◌++◌}
use Rattle.overlay.specs.Overlay.{Overlay}
use Rattle.endpoint_core.specs.Held.{Held, settings_of}
use Rattle.endpoint_core.specs.Kept.{state_of}
use Rattle.event_story.specs.Packet.{packet_facts_of}
use Rattle.event_story.specs.declared.fact.Fact.{Fact}
use Rattle.event_story.proofs.StoryLemmas.{came-told}
use Rattle.event_story.proofs.story.packet_story.Goals as goal

pub returns : goal.returns
returns c =
    let s = state_of c.args.endpoint.now in
    let b = c.args.octets.now in
    let came = c.frame_in-came.result in
    let own = c.under-under.ensures.value ∙ ap (λ (h : Held). (settings_of h).overlay) c.state.ensures.value in
    let saw = c.in_ok-put_packet_facts.ensures
    ∙ ap (λ (fs : List Fact). fs ++ packet_facts_of c.under-under.result.now c.args.original b came) c.in_ok-facts.ensures.items
    ∙ ap (λ (o : Overlay). packet_facts_of o c.args.original b came) own in
    c.in_ok-text.ensures
    ∙ came-told c.args.number c.args.event.now s (packet_facts_of s.bridges.settings.overlay c.args.original b) _ came _ saw c.frame_in-came.ensures.value
