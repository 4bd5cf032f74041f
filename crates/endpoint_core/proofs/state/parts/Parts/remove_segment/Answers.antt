use Rattle.std.proofs.Common.{◌∙◌, refl}
use Rattle.endpoint_core.proofs.AfterLemmas.{settled-at, state-same}
use Rattle.endpoint_core.proofs.SoundLemmas.{sound-same}
use Rattle.endpoint_core.proofs.SegmentLemmas.{after-removed, sound-removed}
use Rattle.endpoint_core.proofs.StandsLemmas.{stands}
use Rattle.endpoint_core.proofs.state.parts.Parts.remove_segment.Goals as goal

pub returns-clause-after : goal.returns-clause-after
returns-clause-after g c =
    let parts = c.args.self.now in
    let segments = g.T.Tables.segments parts.tables in
    state-same c.args.now _ _ _ _ parts.learning _ _ _ _ c.remove_vid.ensures c.remove_segment.ensures refl refl
    ∙ after-removed c.args.now c.args.vid parts.ports parts.under parts.learning (g.T.Tables.pool parts.tables) _ segments _ (stands parts.ports parts.under parts.learning segments c.args.vid c.requires.sound c.in_ok-check_segment.ensures.there)
    c.in_ok-check_segment.ensures.fault c.remove.ensures.after (settled-at _ _ _ c.remove.ensures.moment (g.met.T.Tables.settled c.remove.new.self)) c.remove.ensures.pool

pub returns-clause-sound : goal.returns-clause-sound
returns-clause-sound g c =
    let parts = c.args.self.now in
    sound-same _ _ _ _ _ _ c.remove_vid.ensures c.remove_segment.ensures refl (sound-removed c.args.now c.args.vid parts.ports parts.under (g.T.Tables.segments parts.tables) _ c.requires.sound c.remove.ensures.after)
