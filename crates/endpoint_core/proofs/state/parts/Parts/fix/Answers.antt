use Rattle.std.proofs.Common.{◌≡◌, refl, ap, subst, Option}
use Rattle.std.specs.Prelude.{IfSome}
use Rattle.filter_db.specs.declared.place.Place.{Place}
use Rattle.filter_db.specs.Segment.{aged, fix_in}
use Rattle.filter_db.specs.Table.{fix}
use Rattle.overlay.specs.declared.settings.change.Change.TheVariants.{Fix}
use Rattle.endpoint_core.specs.Change.{place_of}
use Rattle.endpoint_core.specs.Settings.{SegmentSettings}
use Rattle.endpoint_core.proofs.AfterLemmas.{after-own}
use Rattle.endpoint_core.proofs.SoundLemmas.{sound-adjusted, reached-fix}
use Rattle.endpoint_core.proofs.StandsLemmas.{stands}
use Rattle.endpoint_core.proofs.state.parts.Parts.fix.Goals as goal

pub returns-clause-after : goal.returns-clause-after
returns-clause-after g c =
    let parts = c.args.self.now in
    let segments = g.T.Tables.segments parts.tables in
    let it = stands parts.ports parts.under parts.learning segments c.args.vid c.requires.sound c.in_ok-place.ensures.there in
    let place : c.in_ok-place.place ≡ place_of it.tunneled.tunnels c.args.target = subst (λ (o : Option SegmentSettings). IfSome o (λ s. c.in_ok-place.place ≡ place_of s.tunnels c.args.target)) it.settings c.in_ok-place.ensures.place in
    after-own c.args.now c.args.vid (Fix c.args.vid c.args.mac c.args.target) (fix_in c.in_ok-place.place c.args.mac) parts.ports parts.under parts.learning (g.T.Tables.pool parts.tables) _ _ segments (g.T.Tables.segments c.fix.new.self) it
    refl c.in_ok-place.ensures.fault c.fix.ensures.after c.fix.ensures.moment (g.met.T.Tables.settled c.fix.new.self) c.fix.ensures.pool (λ b s. refl) refl (ap (λ (p : Place). fix it.table.limit p c.args.mac (aged c.args.now it.table).entries) place)

pub returns-clause-sound : goal.returns-clause-sound
returns-clause-sound g c =
    let parts = c.args.self.now in
    sound-adjusted c.args.now c.args.vid (fix_in c.in_ok-place.place c.args.mac) parts.ports parts.under (g.T.Tables.segments parts.tables) (g.T.Tables.segments c.fix.new.self) c.requires.sound (λ s h. reached-fix parts.under c.args.vid s.limit c.in_ok-place.place c.args.mac s.entries c.in_ok-place.ensures.reached h) c.fix.ensures.after
