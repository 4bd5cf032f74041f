use Rattle.std.proofs.Common.{refl}
use Rattle.filter_db.specs.Segment.{unfix_in}
use Rattle.overlay.specs.declared.settings.change.Change.TheVariants.{Unfix}
use Rattle.endpoint_core.proofs.AfterLemmas.{after-own}
use Rattle.endpoint_core.proofs.SoundLemmas.{sound-adjusted, reached-unfix}
use Rattle.endpoint_core.proofs.StandsLemmas.{stands}
use Rattle.endpoint_core.proofs.state.parts.Parts.unfix.Goals as goal

pub returns-clause-after : goal.returns-clause-after
returns-clause-after g c =
    let parts = c.args.self.now in
    let segments = g.T.Tables.segments parts.tables in
    after-own c.args.now c.args.vid (Unfix c.args.vid c.args.mac) (unfix_in c.args.mac) parts.ports parts.under parts.learning (g.T.Tables.pool parts.tables) _ _ segments (g.T.Tables.segments c.unfix.new.self) (stands parts.ports parts.under parts.learning segments c.args.vid c.requires.sound c.in_ok-check_segment.ensures.there)
    refl c.in_ok-check_segment.ensures.fault c.unfix.ensures.after c.unfix.ensures.moment (g.met.T.Tables.settled c.unfix.new.self) c.unfix.ensures.pool (λ b s. refl) refl refl

pub returns-clause-sound : goal.returns-clause-sound
returns-clause-sound g c =
    let parts = c.args.self.now in
    sound-adjusted c.args.now c.args.vid (unfix_in c.args.mac) parts.ports parts.under (g.T.Tables.segments parts.tables) (g.T.Tables.segments c.unfix.new.self) c.requires.sound (λ s h. reached-unfix parts.under c.args.vid c.args.mac s.entries h) c.unfix.ensures.after
