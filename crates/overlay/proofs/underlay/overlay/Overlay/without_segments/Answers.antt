use Rattle.std.proofs.Common.{ap}
use Rattle.wire.specs.declared.ip_udp.addr.Tunnel.TheVariants.{Vxlan, Geneve}
use Rattle.std.specs.FinMap.{empty}
use Rattle.overlay.specs.Index.{Listed}
use Rattle.overlay.specs.Seats.{Seats}
use Rattle.overlay.proofs.HeadsLemmas.{heads-nothing}
use Rattle.overlay.proofs.IndexLemmas.{indexes_nothing, indexes_as}
use Rattle.overlay.proofs.underlay.overlay.Overlay.without_segments.Goals as goal

pub invariant_of-result : goal.invariant_of-result
invariant_of-result c =
    let none = ap (λ (s : Seats). s.segments) c.in_ok-open.ensures in (
      indexes_as Vxlan c.in_ok-open.field-0.segments empty c.in_ok-open-2.field-0.vids empty none (ap (λ (l : Listed). l.vids) c.in_ok-open-2.ensures) (indexes_nothing Vxlan),
      indexes_as Geneve c.in_ok-open.field-0.segments empty c.in_ok-open-3.field-0.vids empty none (ap (λ (l : Listed). l.vids) c.in_ok-open-3.ensures) (indexes_nothing Geneve),
      heads-nothing c.args.underlay c.in_ok-open.field-0 c.args.underlay.limits.segments c.args.underlay.limits.flood c.in_ok-open.ensures,
      record {
        rows = ap (λ (s : Seats). s.most) c.in_ok-open.ensures;
        lists = ap (λ (s : Seats). s.flood) c.in_ok-open.ensures;
        vxlan_places = ap (λ (l : Listed). l.most) c.in_ok-open-2.ensures;
        geneve_places = ap (λ (l : Listed). l.most) c.in_ok-open-3.ensures;
      },
    )
