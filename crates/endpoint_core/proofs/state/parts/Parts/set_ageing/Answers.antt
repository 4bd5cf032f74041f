use Rattle.std.proofs.Common.{◌≡◌, ◌∙◌, ℕ, refl, sym, ap, Bool, not, Option, None, ◌∷◌, []}
use Rattle.filter_db.specs.Segment.{set_ageing_in}
use Rattle.filter_db.specs.Table.{is_live, nanoseconds}
use Rattle.overlay.specs.declared.settings.change.Change.TheVariants.{SetAgeing}
use Rattle.wire.specs.First.{first}
use Rattle.endpoint_core.specs.declared.state.fault.ChangeFault.TheVariants.{OutOfRange}
use Rattle.endpoint_core.specs.Change.{refused, in_segment, is_ageing}
use Rattle.endpoint_core.specs.Settings.{SegmentSettings, joined}
use Rattle.endpoint_core.specs.Learning.{learns}
use Rattle.endpoint_core.specs.State.{bridge_of, settings_by, settings_of, state_of, tables_at}
use Rattle.endpoint_core.proofs.AfterLemmas.{after-accepted, settled-at, tables-named, settings-ageing}
use Rattle.endpoint_core.proofs.SoundLemmas.{sound-adjusted, reached-kept}
use Rattle.endpoint_core.proofs.StandsLemmas.{stands}
use Rattle.endpoint_core.proofs.state.parts.Parts.set_ageing.Goals as goal

pub returns-clause-after : goal.returns-clause-after
returns-clause-after g c =
    let parts = c.args.self.now in
    let now = c.args.now in
    let vid = c.args.vid in
    let segments = g.T.Tables.segments parts.tables in
    let new = g.T.Tables.segments c.set_ageing.new.self in
    let it = stands parts.ports parts.under parts.learning segments vid c.requires.sound c.in_ok-check_segment.ensures.there in
    let none : refused (settings_of g.T.Tables.segments g.T.Tables.pool parts) (SetAgeing vid c.args.seconds)
    ≡ None = ap (λ (o : Option SegmentSettings). in_segment o (λ s. first ((OutOfRange, not (is_ageing c.args.seconds)) ∷ []))) it.settings
    ∙ ap (λ (b : Bool). first ((OutOfRange, not b) ∷ [])) (sym c.is_ageing.ensures ∙ c.if-not-is_ageing.false) in
    after-accepted now (SetAgeing vid c.args.seconds) (state_of g.T.Tables.segments g.T.Tables.pool now parts) _ (tables_at now new) none
    (ap (λ (n : ℕ). settings_by parts.ports parts.under parts.learning n new) c.set_ageing.ensures.pool
    ∙ settings-ageing parts.ports parts.under parts.learning (g.T.Tables.pool parts.tables) now vid c.args.seconds segments new c.set_ageing.ensures.after)
    (tables-named now vid (SetAgeing vid c.args.seconds) (set_ageing_in now c.args.seconds) (settings_of g.T.Tables.segments g.T.Tables.pool parts) (joined (bridge_of (learns parts.learning vid) it.table) it.tunneled it.members) it.table segments new refl it.settings it.has_table c.set_ageing.ensures.after
    (settled-at _ _ _ c.set_ageing.ensures.moment (g.met.T.Tables.settled c.set_ageing.new.self)) refl)

pub returns-clause-sound : goal.returns-clause-sound
returns-clause-sound g c =
    let parts = c.args.self.now in
    sound-adjusted c.args.now c.args.vid (set_ageing_in c.args.now c.args.seconds) parts.ports parts.under (g.T.Tables.segments parts.tables) (g.T.Tables.segments c.set_ageing.new.self) c.requires.sound (λ s h. reached-kept parts.under c.args.vid (is_live (nanoseconds c.args.seconds) c.args.now) s.entries h) c.set_ageing.ensures.after
