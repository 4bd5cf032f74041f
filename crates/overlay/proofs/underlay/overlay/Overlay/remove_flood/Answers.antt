use Rattle.std.proofs.Common.{refl}
use Rattle.wire.specs.declared.ip_udp.addr.Tunnel.TheVariants.{Vxlan, Geneve}
use Rattle.overlay.specs.UnderlayFlood.{Entries, without}
use Rattle.overlay.specs.Overlay.{flood_in}
use Rattle.overlay.proofs.HeadsLemmas.{heads-flood}
use Rattle.overlay.proofs.IndexLemmas.{indexes_flood}
use Rattle.overlay.proofs.RoomLemmas.{room_stays}
use Rattle.overlay.proofs.underlay.overlay.Overlay.remove_flood.Goals as goal

-- no tunnel has changed
pub invariant_of-self : goal.invariant_of-self
invariant_of-self c =
    let flood : Entries = without (flood_in c.self.inside.segments.segments c.args.vid) c.args.kind c.args.addr in (
      indexes_flood Vxlan c.remove_flood.result c.self.inside.segments.segments c.remove_flood.new.self.segments c.self.inside.vxlan.vids c.args.vid flood c.self.invariant.0 c.remove_flood.ensures.removed c.remove_flood.ensures.refused,
      indexes_flood Geneve c.remove_flood.result c.self.inside.segments.segments c.remove_flood.new.self.segments c.self.inside.geneve.vids c.args.vid flood c.self.invariant.1 c.remove_flood.ensures.removed c.remove_flood.ensures.refused,
      heads-flood c.remove_flood.result c.self.inside.underlay c.self.inside.segments c.remove_flood.new.self c.args.vid flood c.self.invariant.2 c.remove_flood.ensures.removed c.remove_flood.ensures.refused c.remove_flood.ensures.heads,
      room_stays c.self.inside.underlay.limits.segments c.self.inside.underlay.limits.flood c.self.inside.segments c.remove_flood.new.self c.self.inside.vxlan c.self.inside.vxlan c.self.inside.geneve c.self.inside.geneve c.self.invariant.3 c.remove_flood.ensures.most c.remove_flood.ensures.lists refl refl,
    )
