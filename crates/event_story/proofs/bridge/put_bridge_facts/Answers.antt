use Rattle.std.proofs.Common.{◌≡◌, ◌∙◌, ◌++◌, ap, subst, ℕ, List}
use Rattle.std.specs.Prelude.{OnOk, IfSome}
use Rattle.std.specs.FinMap.{get, len}
use Rattle.wire.specs.Address.{is_group}
use Rattle.wire.specs.Frame.{Frame}
use Rattle.filter_db.specs.Table.{nanoseconds}
use Rattle.tunnel_learning.specs.Bridge as bridges
use Rattle.endpoint_core.specs.Held.{settings_of, state_at}
use Rattle.endpoint_core.specs.Settings.{segment_at}
use Rattle.endpoint_core.specs.StateStep.{after_frame, config_of}
use Rattle.event_story.specs.declared.fact.Fact.{Fact}
use Rattle.event_story.proofs.BridgeLemmas.{bridge-told}
use Rattle.event_story.proofs.bridge.put_bridge_facts.Goals as goal

pub returns : goal.returns
returns c =
    let x = c.args.came.now in
    let t = c.args.now in
    let B = state_at t c.args.state.now in
    let L = state_at c.args.left c.args.state.now in
    let S = settings_of c.args.state.now in
    let vid = c.segment-vid.ensures in
    let from = c.place-from.ensures in
    let frame = c.frame-frame.ensures in
    let src = c.src.ensures ∙ ap (λ (f : Frame). f.src) frame in
    let dst = c.dst.ensures ∙ ap (λ (f : Frame). f.dst) frame in
    let told =
    bridge-told t S.ports (L.tables x.vid) (B.tables x.vid) ((after_frame t x.vid x.from x.frame B).tables x.vid) x c.args.dropped (segment_at S x.vid)
    (bridges.config_of c.bridge-bridge.result) c.limit-limit.result c.ageing.result c.entry_count-entries.result c.place-from.result c.entry-source.result c.entry-before.result c.destination-destination.result c.is_group-group.result c.stood_fact-stood.result
    c.requires.there
    (subst (λ (v : ℕ). IfSome (segment_at S v) (λ s. bridges.config_of c.bridge-bridge.result ≡ config_of S.ports s)) vid c.bridge-bridge.ensures.config)
    (subst (λ (v : ℕ). IfSome (segment_at S v) (λ s. c.limit-limit.result ≡ s.limit)) vid c.limit-limit.ensures)
    (subst (λ (v : ℕ). IfSome (segment_at S v) (λ s. c.ageing.result ≡ nanoseconds s.ageing)) vid c.ageing.ensures)
    (c.entry_count-entries.ensures ∙ ap (λ (v : ℕ). len (B.tables v)) vid)
    from
    (c.entry-source.ensures ∙ (λ i. get (B.tables (vid i)) (src i)))
    (c.entry-before.ensures ∙ (λ i. get (L.tables (vid i)) (dst i)))
    (c.destination-destination.ensures ∙ (λ i. get ((after_frame t (vid i) (from i) (frame i) B).tables (vid i)) (frame i).dst))
    (c.is_group-group.ensures ∙ ap is_group (c.dst-2.ensures ∙ ap (λ (f : Frame). f.dst) frame))
    c.stood_fact-stood.ensures in
    subst (λ (fs : List Fact). OnOk c.put_told.result (c.put_told.new.facts.items ≡ c.args.facts.now.items ++ fs)) told c.put_told.ensures
