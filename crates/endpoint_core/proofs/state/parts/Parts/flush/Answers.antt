use Rattle.std.proofs.Common.{refl}
use Rattle.filter_db.specs.Segment.{flush_in}
use Rattle.filter_db.specs.Table.{is_fixed}
use Rattle.overlay.specs.declared.settings.change.Change.TheVariants.{Flush}
use Rattle.endpoint_core.proofs.AfterLemmas.{after-own}
use Rattle.endpoint_core.proofs.SoundLemmas.{sound-adjusted, reached-kept}
use Rattle.endpoint_core.proofs.StandsLemmas.{stands}
use Rattle.endpoint_core.proofs.state.parts.Parts.flush.Goals as goal

pub returns-clause-after : goal.returns-clause-after
returns-clause-after g c =
    let parts = c.args.self.now in
    let segments = g.T.Tables.segments parts.tables in
    after-own c.args.now c.args.vid (Flush c.args.vid) flush_in parts.ports parts.under parts.learning (g.T.Tables.pool parts.tables) _ _ segments (g.T.Tables.segments c.flush.new.self) (stands parts.ports parts.under parts.learning segments c.args.vid c.requires.sound c.in_ok-check_segment.ensures.there)
    refl c.in_ok-check_segment.ensures.fault c.flush.ensures.after c.flush.ensures.moment (g.met.T.Tables.settled c.flush.new.self) c.flush.ensures.pool (λ b s. refl) refl refl

pub returns-clause-sound : goal.returns-clause-sound
returns-clause-sound g c =
    let parts = c.args.self.now in
    sound-adjusted c.args.now c.args.vid flush_in parts.ports parts.under (g.T.Tables.segments parts.tables) (g.T.Tables.segments c.flush.new.self) c.requires.sound (λ s h. reached-kept parts.under c.args.vid is_fixed s.entries h) c.flush.ensures.after
