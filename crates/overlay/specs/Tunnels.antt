-- The tunnels of a segment. It states no standard.
use Rattle.std.specs.Prelude.{◌≡◌, refl, List, ◌∷◌, Option, Some, None, slice_get}
use Rattle.std.specs.List.{find}
use Rattle.std.specs.Option.{option_to_list}
use Rattle.wire.specs.declared.ip_udp.addr.Tunnel.{Tunnel}
use Rattle.wire.specs.declared.ip_udp.addr.Tunnel.TheVariants.{Vxlan}
use Rattle.wire.specs.Addr.{same_kind}
use Rattle.overlay.specs.declared.underlay.tunnels.SegmentTunnel.{SegmentTunnel}

-- the tunnel of a kind
abbrev pub of_kind : Tunnel → List SegmentTunnel → Option SegmentTunnel
of_kind kind tunnels = find (λ t. same_kind t.kind kind) tunnels

-- what stands for the first tunnel of a list that has none
abbrev pub no_tunnel : SegmentTunnel
no_tunnel = record { kind = Vxlan; vni = 0; group = 0 }

-- the second of a list of one or two
pub second_of : {X : Type 0} (x : X) (second : Option X) → slice_get (x ∷ option_to_list second) 1 ≡ second
second_of x None = refl
second_of x (Some y) = refl
