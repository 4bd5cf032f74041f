use Rattle.std.proofs.Common.{◌≡◌, ◌∙◌, ap, arith, subst, ℕ, List, ◌++◌}
use Rattle.std.specs.Prelude.{OnOk}
use Rattle.endpoint_core.specs.Held.{state_at}
use Rattle.endpoint_core.specs.State.{aged}
use Rattle.endpoint_core.proofs.LaterLemmas.{held-later}
use Rattle.endpoint_core.specs.Kept.{state_of}
use Rattle.event_story.specs.Bridge.{bridge_facts}
use Rattle.event_story.specs.declared.fact.Fact.{Fact}
use Rattle.event_story.proofs.story.put_facts_of_bridge.Goals as goal

pub put_bridge_facts-requires-clause-left : goal.put_bridge_facts-requires-clause-left
put_bridge_facts-requires-clause-left c = omega (arith, c.state-state.ensures.time, c.now-left.ensures)

pub put_bridge_facts-requires-clause-time : goal.put_bridge_facts-requires-clause-time
put_bridge_facts-requires-clause-time c = omega (arith, c.state-state.ensures.time, c.requires.time)

pub returns : goal.returns
returns c =
    let kept = c.args.endpoint.now in
    let s = state_of kept in
    let t = c.args.event.now.moment in
    let held = c.state-state.result.now in
    let stays = ap (λ (m : ℕ). state_at m held) c.now-left.ensures ∙ ap (state_at kept.moment) c.state-state.ensures.value in
    let later = ap (state_at t) c.state-state.ensures.value ∙ held-later kept.held kept.moment t c.requires.time in
    let told : bridge_facts t (state_at c.now-left.result held) (state_at t held) c.args.came.now c.args.dropped ≡ bridge_facts t s.bridges (aged t s.bridges) c.args.came.now c.args.dropped =
    λ i. bridge_facts t (stays i) (later i) c.args.came.now c.args.dropped in
    subst (λ (fs : List Fact). OnOk c.put_bridge_facts.result (c.put_bridge_facts.new.facts.items ≡ c.args.facts.now.items ++ fs)) told c.put_bridge_facts.ensures
