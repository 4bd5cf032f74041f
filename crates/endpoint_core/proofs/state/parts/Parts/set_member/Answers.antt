use Rattle.std.proofs.Common.{◌≡◌, ◌∙◌, refl, sym, ap, not, false, length, Option, None, Some}
use Rattle.std.specs.Prelude.{is_some}
use Rattle.filter_db.specs.declared.place.Place.TheVariants.{Local}
use Rattle.filter_db.specs.Segment.{Segment, aged, flush_place_in}
use Rattle.filter_db.specs.Table.{is_seen_at}
use Rattle.overlay.specs.declared.ports.member.Egress.{Egress}
use Rattle.overlay.specs.Ports.{Ports, has_segment, with_member}
use Rattle.overlay.specs.declared.settings.change.Change.TheVariants.{SetMember}
use Rattle.endpoint_core.specs.Change.{in_segment, port_fault, entries_changed}
use Rattle.endpoint_core.specs.Learning.{learns}
use Rattle.endpoint_core.specs.Settings.{SegmentSettings, joined}
use Rattle.endpoint_core.specs.State.{bridge_of}
use Rattle.endpoint_core.proofs.AfterLemmas.{settled-at, state-same, after-entries}
use Rattle.endpoint_core.proofs.SoundLemmas.{sound-adjusted, sound-ports, members-as_before, reached-kept}
use Rattle.endpoint_core.proofs.StandsLemmas.{stands}
use Rattle.endpoint_core.proofs.state.parts.Parts.set_member.Goals as goal

none_of : (o : Option Egress) → is_some o ≡ false → o ≡ None
none_of None h = refl
none_of (Some e) h = absurd (cc)

pub returns-then-is_none-clause-after : goal.returns-then-is_none-clause-after
returns-then-is_none-clause-after g c =
    let parts = c.args.self.now in
    let now = c.args.now in
    let vid = c.args.vid in
    let port = c.args.port in
    let egress = c.args.egress in
    let segments = g.T.Tables.segments parts.tables in
    let new = g.T.Tables.segments c.flush_place.new.self in
    let it = stands parts.ports parts.under parts.learning segments vid c.requires.sound c.in_ok-check_segment.ensures.there in
    let own = joined (bridge_of (learns parts.learning vid) it.table) it.tunneled it.members in
    let ended : egress ≡ None = none_of egress c.if-is_none.ensures in
    state-same now _ _ _ _ parts.learning _ _ _ new c.set_member.ensures refl refl refl
    ∙ after-entries now vid (SetMember vid port egress) (flush_place_in (Local port)) parts.ports (with_member parts.ports vid port egress) parts.under parts.under parts.learning (g.T.Tables.pool parts.tables) (g.T.Tables.pool c.flush_place.new.self) segments new
    it refl
    (c.in_ok-check_port.ensures ∙ sym (ap (λ (o : Option SegmentSettings). in_segment o (λ s. port_fault (length parts.ports.ports) port)) it.settings))
    c.flush_place.ensures.after
    (settled-at _ _ _ c.flush_place.ensures.moment (g.met.T.Tables.settled c.flush_place.new.self))
    c.flush_place.ensures.pool
    (λ b s. refl) refl
    (ap (λ (e : Option Egress). entries_changed now own (SetMember vid port e) (aged now it.table).entries) (sym ended))

pub returns-else-is_none-clause-sound : goal.returns-else-is_none-clause-sound
returns-else-is_none-clause-sound g c =
    let parts = c.args.self.now in
    let segments = g.T.Tables.segments parts.tables in
    let it = stands parts.ports parts.under parts.learning segments c.args.vid c.requires.sound c.in_ok-check_segment.ensures.there in
    sound-ports parts.ports c.set_member.new.self parts.under segments c.requires.sound
    (λ w. ap (λ (p : Ports). has_segment p w) c.set_member.ensures
    ∙ members-as_before parts.ports c.args.vid c.args.port c.args.egress (c.requires.sound.members c.args.vid ∙ ap (λ (o : Option Segment). is_some o) it.has_table) w)

pub returns-then-is_none-clause-sound : goal.returns-then-is_none-clause-sound
returns-then-is_none-clause-sound g c =
    let parts = c.args.self.now in
    let segments = g.T.Tables.segments parts.tables in
    let it = stands parts.ports parts.under parts.learning segments c.args.vid c.requires.sound c.in_ok-check_segment.ensures.there in
    let sound = sound-ports parts.ports c.set_member.new.self parts.under segments c.requires.sound
    (λ w. ap (λ (p : Ports). has_segment p w) c.set_member.ensures
    ∙ members-as_before parts.ports c.args.vid c.args.port c.args.egress (c.requires.sound.members c.args.vid ∙ ap (λ (o : Option Segment). is_some o) it.has_table) w) in
    sound-adjusted c.args.now c.args.vid (flush_place_in (Local c.args.port)) c.set_member.new.self parts.under segments (g.T.Tables.segments c.flush_place.new.self) sound
    (λ s h. reached-kept parts.under c.args.vid (λ e. not (is_seen_at (Local c.args.port) e)) s.entries h) c.flush_place.ensures.after
