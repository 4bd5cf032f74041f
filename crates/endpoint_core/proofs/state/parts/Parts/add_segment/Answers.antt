use Rattle.std.proofs.Common.{◌∙◌, refl, ap, arith}
use Rattle.filter_db.specs.declared.tables.TableRule.{TableRule}
use Rattle.overlay.specs.Flood.{Entries}
use Rattle.overlay.specs.declared.underlay.segment.TunnelRule.{TunnelRule}
use Rattle.overlay.specs.Overlay as overlay
use Rattle.overlay.specs.declared.settings.change.NewSegment.{NewSegment}
use Rattle.endpoint_core.proofs.AfterLemmas.{settled-at, state-same}
use Rattle.endpoint_core.proofs.SoundLemmas.{sound-same}
use Rattle.endpoint_core.proofs.RoomLemmas.{few-under}
use Rattle.endpoint_core.proofs.SegmentLemmas.{after-added, sound-added}
use Rattle.endpoint_core.proofs.state.parts.Parts.add_segment.Goals as goal

-- the rule of its table
abbrev rule_of : NewSegment → TableRule
rule_of new = record { vid = new.vid; limit = new.limit; ageing = new.ageing }

-- what the underlay goes by, with a flood list
abbrev tunnels_of : NewSegment → Entries → TunnelRule
tunnels_of new flood = record { vid = new.vid; tunnels = new.tunnels; flood = flood; peers = new.peers; tags = new.tags }

pub add_segment-requires-clause-room : goal.add_segment-requires-clause-room
add_segment-requires-clause-room g c =
    let parts = c.args.self.now in
    let most = few-under parts.ports parts.under (g.T.Tables.segments parts.tables) c.requires.sound in
    let few = c.in_ok-check_new.ensures.few in
    omega (arith, most, few)

pub returns-clause-after : goal.returns-clause-after
returns-clause-after g c =
    let parts = c.args.self.now in
    let under = c.add_segment.ensures ∙ ap (λ (f : Entries). overlay.with_segment parts.under (tunnels_of c.args.new f)) c.new.ensures in
    state-same c.args.now _ _ _ _ c.set.new.self _ _ _ _ c.add_vid.ensures under refl refl
    ∙ after-added c.args.now c.args.new (rule_of c.args.new) parts.ports parts.under parts.learning c.set.new.self (g.T.Tables.pool parts.tables) _ (g.T.Tables.segments parts.tables) _ refl refl refl
    c.in_ok-check_new.ensures.absent c.in_ok-check_new.ensures.fault c.set.ensures c.add.ensures.after (settled-at _ _ _ c.add.ensures.moment (g.met.T.Tables.settled c.add.new.self)) c.add.ensures.pool

pub returns-clause-sound : goal.returns-clause-sound
returns-clause-sound g c =
    let parts = c.args.self.now in
    let under = c.add_segment.ensures ∙ ap (λ (f : Entries). overlay.with_segment parts.under (tunnels_of c.args.new f)) c.new.ensures in
    sound-same _ _ _ _ _ _ c.add_vid.ensures under refl
    (sound-added c.args.now c.args.new (rule_of c.args.new) parts.ports parts.under (g.T.Tables.segments parts.tables) _ c.requires.sound c.in_ok-check_new.ensures.vid refl c.add.ensures.after)
