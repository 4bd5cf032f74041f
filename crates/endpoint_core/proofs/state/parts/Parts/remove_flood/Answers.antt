use Rattle.std.proofs.Common.{◌≡◌, ◌∙◌, refl, sym, ap, Bool, not, Option, None, Some, ◌∷◌, []}
use Rattle.std.specs.Option.{option_map_or, unwrap_or}
use Rattle.wire.specs.First.{first}
use Rattle.wire.specs.declared.ip_udp.addr.Tunnel.{Tunnel}
use Rattle.wire.specs.declared.ip_udp.addr.Tunnel.TheVariants.{Vxlan}
use Rattle.filter_db.specs.declared.place.Place.TheVariants.{Remote}
use Rattle.filter_db.specs.Segment.{aged, flush_place_in}
use Rattle.filter_db.specs.Table.{is_seen_at, flush_place}
use Rattle.overlay.specs.Flood.{Entries, holds, without}
use Rattle.overlay.specs.declared.underlay.segment.Segment.{Segment}
use Rattle.overlay.specs.Overlay.{flood_at, with_flood}
use Rattle.overlay.specs.declared.settings.change.Change.TheVariants.{RemoveFlood}
use Rattle.endpoint_core.specs.declared.state.fault.ChangeFault.TheVariants.{NotThere}
use Rattle.endpoint_core.specs.Settings.{Settings, SegmentSettings, kind_named}
use Rattle.endpoint_core.specs.Change.{refused, accepted, in_segment, at_tunnel, kind_in}
use Rattle.endpoint_core.specs.State.{settings_by}
use Rattle.endpoint_core.proofs.AfterLemmas.{settled-at, state-same, after-entries}
use Rattle.endpoint_core.proofs.SoundLemmas.{sound-adjusted, sound-same, sound-relisted, reached-kept, reached-without}
use Rattle.endpoint_core.proofs.StandsLemmas.{stands}
use Rattle.endpoint_core.proofs.TargetLemmas.{named-in}
use Rattle.endpoint_core.proofs.state.parts.Parts.remove_flood.Goals as goal

pub returns-clause-after : goal.returns-clause-after
returns-clause-after g c =
    let parts = c.args.self.now in
    let now = c.args.now in
    let vid = c.args.vid in
    let addr = c.args.addr in
    let tunnel = c.args.tunnel in
    let kind = c.in_ok-kind.kind in
    let change = RemoveFlood vid addr tunnel in
    let segments = g.T.Tables.segments parts.tables in
    let new = g.T.Tables.segments c.flush_place.new.self in
    let it = stands parts.ports parts.under parts.learning segments vid c.requires.sound c.in_ok-kind.ensures.there in
    let S = settings_by parts.ports parts.under parts.learning (g.T.Tables.pool parts.tables) segments in
    let named : kind_named it.tunneled.tunnels tunnel ≡ Some kind = named-in _ _ tunnel kind it.settings c.in_ok-kind.ensures.kind in
    let flood : flood_at parts.under vid ≡ it.tunneled.flood = ap (λ (o : Option Segment). option_map_or (λ h. h.flood) o []) it.has_tunnels in
    let none : refused S change ≡ None =
    ap (λ (o : Option SegmentSettings). in_segment o (λ s. at_tunnel (kind_named s.tunnels tunnel) (λ k. first ((NotThere, not (holds s.flood k addr)) ∷ [])))) it.settings
    ∙ ap (λ (o : Option Tunnel). at_tunnel o (λ k. first ((NotThere, not (holds it.tunneled.flood k addr)) ∷ []))) named
    ∙ ap (λ (f : Entries). first ((NotThere, not (holds f kind addr)) ∷ [])) (sym flood)
    ∙ ap (λ (b : Bool). first ((NotThere, not b) ∷ [])) (sym c.in_ok-remove_flood.ensures.there) in
    let kind_is : kind_in it.tunneled.tunnels tunnel ≡ kind = ap (λ (o : Option Tunnel). unwrap_or o Vxlan) named in
    let overlay = with_flood parts.under vid (without (flood_at parts.under vid) kind addr) in
    let settings : settings_by parts.ports overlay parts.learning (g.T.Tables.pool parts.tables) segments ≡ accepted S change =
    ap (λ (f : Entries). let s : Settings = settings_by parts.ports (with_flood parts.under vid (without f kind addr)) parts.learning (g.T.Tables.pool parts.tables) segments in s) flood
    ∙ ap (λ (k : Tunnel). let s : Settings = settings_by parts.ports (with_flood parts.under vid (without it.tunneled.flood k addr)) parts.learning (g.T.Tables.pool parts.tables) segments in s) (sym kind_is)
    ∙ sym (ap (λ (o : Option SegmentSettings). option_map_or (λ s. let t : Settings = record S { overlay = with_flood parts.under vid (without s.flood (kind_in s.tunnels tunnel) addr) } in t) o S) it.settings) in
    state-same now _ parts.ports _ _ parts.learning _ _ _ new refl c.in_ok-remove_flood.ensures.removed refl refl
    ∙ after-entries now vid change (flush_place_in (Remote kind addr)) parts.ports parts.ports parts.under overlay parts.learning (g.T.Tables.pool parts.tables) (g.T.Tables.pool c.flush_place.new.self) segments new
    it refl (sym none) c.flush_place.ensures.after
    (settled-at _ _ _ c.flush_place.ensures.moment (g.met.T.Tables.settled c.flush_place.new.self))
    c.flush_place.ensures.pool
    (λ b s. refl) settings
    (ap (λ (k : Tunnel). flush_place (Remote k addr) (aged now it.table).entries) (sym kind_is))

pub returns-clause-sound : goal.returns-clause-sound
returns-clause-sound g c =
    let parts = c.args.self.now in
    let vid = c.args.vid in
    let kind = c.in_ok-kind.kind in
    let segments = g.T.Tables.segments parts.tables in
    let flood = without (flood_at parts.under vid) kind c.args.addr in
    let sound = sound-relisted parts.ports parts.under segments vid flood c.requires.sound c.in_ok-kind.ensures.there (reached-without parts.under vid (flood_at parts.under vid) kind c.args.addr (c.requires.sound.flood vid)) in
    sound-adjusted c.args.now vid (flush_place_in (Remote kind c.args.addr)) parts.ports c.remove_flood.new.self segments (g.T.Tables.segments c.flush_place.new.self)
    (sound-same _ _ _ _ _ _ refl c.in_ok-remove_flood.ensures.removed refl sound)
    (λ s h. reached-kept c.remove_flood.new.self vid (λ e. not (is_seen_at (Remote kind c.args.addr) e)) s.entries h) c.flush_place.ensures.after
