use Rattle.std.proofs.Common.{refl, ◌++◌, ◌∷◌, []}
use Rattle.overlay.specs.Flood.{Entries, has_family}
use Rattle.overlay.specs.UnderlaySettings.{own}
use Rattle.overlay.specs.Overlay.{flood_at, tunnel_at}
use Rattle.std.specs.Prelude.{is_some}
use Rattle.std.proofs.lemmas.Bool.{and_from}
use Rattle.endpoint_core.proofs.SoundLemmas.{sound-same, sound-relisted, reached-added, family-added}
use Rattle.endpoint_core.proofs.state.parts.Parts.add_flood.Goals as goal

pub returns-clause-sound : goal.returns-clause-sound
returns-clause-sound g c =
    let parts = c.args.self.now in
    let vid = c.args.vid in
    let kind = c.in_ok-kind.kind in
    let flood : Entries = flood_at parts.under vid ++ record { tunnel = kind; addr = c.args.addr } ∷ [] in
    let family = family-added (own parts.under.underlay) parts.under.underlay.limits.flood (flood_at parts.under vid) kind c.args.addr c.in_ok-add_flood.ensures.fault in
    let reached = and_from (is_some (tunnel_at parts.under vid kind)) (has_family (own parts.under.underlay) c.args.addr) c.in_ok-kind.ensures.tunnel family in
    sound-same _ _ _ _ _ _ refl c.in_ok-add_flood.ensures.added refl
    (sound-relisted parts.ports parts.under (g.T.Tables.segments parts.tables) vid flood c.requires.sound c.in_ok-kind.ensures.there (reached-added parts.under vid (flood_at parts.under vid) kind c.args.addr (c.requires.sound.flood vid) reached))
