use Rattle.std.proofs.Common.{◌≡◌, ◌∙◌, List, Option, None, Some, refl, ap, sym}
use Rattle.std.proofs.lemmas.Option.{none-some, same_Some}
use Rattle.std.specs.Option.{option_map}
use Rattle.std.specs.FinMap.{get}
use Rattle.wire.specs.declared.ip_udp.addr.Tunnel.TheVariants.{Vxlan, Geneve}
use Rattle.overlay.specs.declared.underlay.segment.Segment.{Segment}
use Rattle.overlay.specs.declared.underlay.tunnels.SegmentTunnel.{SegmentTunnel}
use Rattle.overlay.specs.Index.{Listed}
use Rattle.overlay.specs.Tunnels.{of_kind}
use Rattle.overlay.specs.Seats.{Seats}
use Rattle.overlay.proofs.HeadsLemmas.{heads-remove}
use Rattle.overlay.proofs.IndexLemmas.{indexes-remove, indexes_as}
use Rattle.overlay.proofs.RoomLemmas.{room_stays}
use Rattle.overlay.proofs.underlay.overlay.Overlay.remove_segment.Goals as goal

-- the segment whose tunnels these are
tunnels_there : (x : Option Segment) (tunnels : List SegmentTunnel) → option_map (λ g. g.tunnels) x ≡ Some tunnels → (g : Segment) × (x ≡ Some g) × (g.tunnels ≡ tunnels)
tunnels_there None tunnels is = absurd (none-some tunnels is)
tunnels_there (Some g) tunnels is = (g, refl, same_Some g.tunnels tunnels is)

-- both indexes, without the segment
pub invariant_of-self : goal.invariant_of-self
invariant_of-self c =
    let before = c.self.inside.segments.segments in
    let there = sym c.take.ensures.taken ∙ c.in-Some.is in
    let was = tunnels_there (get before c.args.vid) c.in-Some.tunnels there in (
      indexes_as Vxlan c.take.new.self.segments _ c.unlist.new.self.vids _ (ap (λ (s : Seats). s.segments) c.take.ensures.left) (ap (λ (l : Listed). l.vids) c.unlist.ensures)
          (indexes-remove Vxlan c.self.inside.segments.segments c.self.inside.vxlan.vids c.args.vid was.0 c.of.result (ap (of_kind Vxlan) was.2 ∙ sym c.of.ensures) c.self.invariant.0 was.1),
      indexes_as Geneve c.take.new.self.segments _ c.unlist-in-Some.new.self.vids _ (ap (λ (s : Seats). s.segments) c.take.ensures.left) (ap (λ (l : Listed). l.vids) c.unlist-in-Some.ensures)
          (indexes-remove Geneve c.self.inside.segments.segments c.self.inside.geneve.vids c.args.vid was.0 c.of-in-Some.result (ap (of_kind Geneve) was.2 ∙ sym c.of-in-Some.ensures) c.self.invariant.1 was.1),
      heads-remove c.self.inside.underlay c.self.inside.segments c.take.new.self c.args.vid c.self.invariant.2 c.take.ensures.left,
      room_stays c.self.inside.underlay.limits.segments c.self.inside.underlay.limits.flood c.self.inside.segments c.take.new.self c.self.inside.vxlan c.unlist.new.self c.self.inside.geneve c.unlist-in-Some.new.self c.self.invariant.3
          (ap (λ (s : Seats). s.most) c.take.ensures.left) (ap (λ (s : Seats). s.flood) c.take.ensures.left) (ap (λ (l : Listed). l.most) c.unlist.ensures) (ap (λ (l : Listed). l.most) c.unlist-in-Some.ensures),
    )
