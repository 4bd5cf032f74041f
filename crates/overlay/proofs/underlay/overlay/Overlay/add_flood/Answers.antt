use Rattle.std.proofs.Common.{◌++◌, ◌∷◌, [], refl}
use Rattle.wire.specs.declared.ip_udp.addr.Tunnel.TheVariants.{Vxlan, Geneve}
use Rattle.overlay.specs.UnderlayFlood.{Entries}
use Rattle.overlay.specs.Overlay.{flood_in}
use Rattle.overlay.proofs.HeadsLemmas.{heads-flood}
use Rattle.overlay.proofs.IndexLemmas.{indexes_flood}
use Rattle.overlay.proofs.RoomLemmas.{room_stays}
use Rattle.overlay.proofs.underlay.overlay.Overlay.add_flood.Goals as goal

-- no tunnel has changed
pub invariant_of-self : goal.invariant_of-self
invariant_of-self c =
    let flood : Entries = flood_in c.self.inside.segments.segments c.args.vid ++ record { tunnel = c.args.kind; addr = c.args.addr } ∷ [] in (
      indexes_flood Vxlan c.add_flood.result c.self.inside.segments.segments c.add_flood.new.self.segments c.self.inside.vxlan.vids c.args.vid flood c.self.invariant.0 c.add_flood.ensures.added c.add_flood.ensures.refused,
      indexes_flood Geneve c.add_flood.result c.self.inside.segments.segments c.add_flood.new.self.segments c.self.inside.geneve.vids c.args.vid flood c.self.invariant.1 c.add_flood.ensures.added c.add_flood.ensures.refused,
      heads-flood c.add_flood.result c.self.inside.underlay c.self.inside.segments c.add_flood.new.self c.args.vid flood c.self.invariant.2 c.add_flood.ensures.added c.add_flood.ensures.refused c.add_flood.ensures.heads,
      room_stays c.self.inside.underlay.limits.segments c.self.inside.underlay.limits.flood c.self.inside.segments c.add_flood.new.self c.self.inside.vxlan c.self.inside.vxlan c.self.inside.geneve c.self.inside.geneve c.self.invariant.3 c.add_flood.ensures.most c.add_flood.ensures.lists refl refl,
    )
