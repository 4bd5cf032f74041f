use Rattle.endpoint_core.proofs.AfterLemmas.{settled-at}
use Rattle.endpoint_core.proofs.SegmentLemmas.{after-limited, sound-limited}
use Rattle.endpoint_core.proofs.StandsLemmas.{stands}
use Rattle.endpoint_core.proofs.state.parts.Parts.set_limit.Goals as goal

pub returns-clause-after : goal.returns-clause-after
returns-clause-after g c =
    let parts = c.args.self.now in
    let segments = g.T.Tables.segments parts.tables in
    after-limited c.args.now c.args.vid c.args.limit parts.ports parts.under parts.learning (g.T.Tables.pool parts.tables) _ segments _ (stands parts.ports parts.under parts.learning segments c.args.vid c.requires.sound c.in_ok-check_limit.ensures.there)
    c.in_ok-check_limit.ensures.fault c.set_limit.ensures.after (settled-at _ _ _ c.set_limit.ensures.moment (g.met.T.Tables.settled c.set_limit.new.self)) c.set_limit.ensures.pool

pub returns-clause-sound : goal.returns-clause-sound
returns-clause-sound g c =
    let parts = c.args.self.now in
    sound-limited c.args.now c.args.vid c.args.limit parts.ports parts.under (g.T.Tables.segments parts.tables) (g.T.Tables.segments c.set_limit.new.self) c.requires.sound c.set_limit.ensures.after
