use Rattle.std.proofs.Common.{◌≡◌, ◌∙◌, ℕ, List, Option, false, true, sym, ap, subst, arith}
use Rattle.std.specs.Prelude.{IfSome}
use Rattle.std.specs.FinMap.{insert}
use Rattle.wire.specs.declared.ip_udp.addr.Tunnel.{Tunnel}
use Rattle.wire.specs.declared.ip_udp.addr.Tunnel.TheVariants.{Vxlan, Geneve}
use Rattle.overlay.specs.declared.underlay.tunnels.SegmentTunnel.{SegmentTunnel}
use Rattle.overlay.specs.Index.{Index, Indexes, Listed, has_at}
use Rattle.overlay.specs.Tunnels.{of_kind}
use Rattle.overlay.specs.Overlay.{Overlay, Segments, segment_of, are_free}
use Rattle.overlay.specs.Seats.{Seats}
use Rattle.overlay.proofs.HeadsLemmas.{heads-insert}
use Rattle.overlay.proofs.IndexLemmas.{absent_where, free_of, free_listed, indexes-insert, indexes_as, index_size}
use Rattle.overlay.proofs.RoomLemmas.{room_stays}
use Rattle.overlay.proofs.underlay.overlay.Overlay.add_segment.Goals as goal

-- the index, over the segments that are seen
seen : (kind : Tunnel) (m : Segments) (S : Overlay) (index : Index) → m ≡ S.segments → Indexes kind m index → Indexes kind S.segments index
seen kind m S index same all = subst (λ (n : Segments). Indexes kind n index) same all

free_at : (kind : Tunnel) (S : Overlay) (tunnels : List SegmentTunnel) (tunnel : Option SegmentTunnel) → tunnel ≡ of_kind kind tunnels → are_free S tunnels ≡ true → IfSome tunnel (λ t. (q : ℕ) → has_at kind S.segments t.vni q ≡ false)
free_at kind S tunnels tunnel is free = subst (λ (o : Option SegmentTunnel). IfSome o (λ t. (q : ℕ) → has_at kind S.segments t.vni q ≡ false)) (sym is) (free_of kind S tunnels free)

pub list-requires-clause-new : goal.list-requires-clause-new
list-requires-clause-new c =
    let all = seen Vxlan c.self.inside.segments.segments c.args.self.now c.self.inside.vxlan.vids (ap (λ (S : Overlay). S.segments) c.self.view_is) c.self.invariant.0 in
    free_listed Vxlan c.args.self.now c.self.inside.vxlan.vids c.of.result all (free_at Vxlan c.args.self.now c.args.rule.tunnels c.of.result c.of.ensures c.requires.free)

pub list-requires-clause-room : goal.list-requires-clause-room
list-requires-clause-room c =
    let all = seen Vxlan c.self.inside.segments.segments c.args.self.now c.self.inside.vxlan.vids (ap (λ (S : Overlay). S.segments) c.self.view_is) c.self.invariant.0 in
    omega (arith, c.requires.room, ap (λ (S : Overlay). S.underlay.limits.segments) c.self.view_is, c.self.invariant.3.vxlan_places, index_size Vxlan c.args.self.now.segments c.self.inside.vxlan.vids all)

pub list-requires-2-clause-new : goal.list-requires-2-clause-new
list-requires-2-clause-new c =
    let all = seen Geneve c.self.inside.segments.segments c.args.self.now c.self.inside.geneve.vids (ap (λ (S : Overlay). S.segments) c.self.view_is) c.self.invariant.1 in
    free_listed Geneve c.args.self.now c.self.inside.geneve.vids c.of-2.result all (free_at Geneve c.args.self.now c.args.rule.tunnels c.of-2.result c.of-2.ensures c.requires.free)

pub list-requires-2-clause-room : goal.list-requires-2-clause-room
list-requires-2-clause-room c =
    let all = seen Geneve c.self.inside.segments.segments c.args.self.now c.self.inside.geneve.vids (ap (λ (S : Overlay). S.segments) c.self.view_is) c.self.invariant.1 in
    omega (arith, c.requires.room, ap (λ (S : Overlay). S.underlay.limits.segments) c.self.view_is, c.self.invariant.3.geneve_places, index_size Geneve c.args.self.now.segments c.self.inside.geneve.vids all)

-- both indexes, with the segment in them
pub invariant_of-self : goal.invariant_of-self
invariant_of-self c =
    let S = c.args.self.now in
    let rule = c.args.rule in
    let same = ap (λ (S : Overlay). S.segments) c.self.view_is in
    let absent = absent_where _ c.requires.new in
    let put = ap (λ (s : Seats). s.segments) c.put.ensures ∙ ap (λ (m : Segments). insert m rule.vid (segment_of rule)) same in (
      indexes_as Vxlan c.put.new.self.segments _ c.list.new.self.vids _ put (ap (λ (l : Listed). l.vids) c.list.ensures)
          (indexes-insert Vxlan S.segments c.self.inside.vxlan.vids rule.vid (segment_of rule) c.of.result (sym c.of.ensures) (seen Vxlan c.self.inside.segments.segments S c.self.inside.vxlan.vids same c.self.invariant.0) absent
          (free_at Vxlan S rule.tunnels c.of.result c.of.ensures c.requires.free)),
      indexes_as Geneve c.put.new.self.segments _ c.list-2.new.self.vids _ put (ap (λ (l : Listed). l.vids) c.list-2.ensures)
          (indexes-insert Geneve S.segments c.self.inside.geneve.vids rule.vid (segment_of rule) c.of-2.result (sym c.of-2.ensures) (seen Geneve c.self.inside.segments.segments S c.self.inside.geneve.vids same c.self.invariant.1) absent
          (free_at Geneve S rule.tunnels c.of-2.result c.of-2.ensures c.requires.free)),
      heads-insert c.self.inside.underlay c.self.inside.segments c.put.new.self rule.vid (segment_of rule) c.of-heads.result c.self.invariant.2 c.put.ensures c.of-heads.ensures,
      room_stays c.self.inside.underlay.limits.segments c.self.inside.underlay.limits.flood c.self.inside.segments c.put.new.self c.self.inside.vxlan c.list.new.self c.self.inside.geneve c.list-2.new.self c.self.invariant.3
          (ap (λ (s : Seats). s.most) c.put.ensures) (ap (λ (s : Seats). s.flood) c.put.ensures) (ap (λ (l : Listed). l.most) c.list.ensures) (ap (λ (l : Listed). l.most) c.list-2.ensures),
    )
