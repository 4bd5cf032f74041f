-- The heads of the packets in the segments' tunnels. It states no standard.
use Rattle.std.specs.Prelude.{◌≡◌, ℕ, List, Option}
use Rattle.std.specs.Option.{option_map, option_and_then}
use Rattle.std.specs.FinMap.{get}
use Rattle.wire.specs.declared.ip_udp.addr.Tunnel.{Tunnel}
use Rattle.wire.specs.declared.ip_udp.addr.Tunnel.TheVariants.{Vxlan, Geneve}
use Rattle.wire.specs.OuterPacket.{tunnel_header}
use Rattle.wire.specs.OuterTemplate.{Fixed}
use Rattle.overlay.specs.declared.underlay.heads.SegmentHeads.{SegmentHeads}
use Rattle.overlay.specs.declared.underlay.heads.TunnelHeads.{TunnelHeads}
use Rattle.overlay.specs.declared.underlay.settings.Underlay.{Underlay}
use Rattle.overlay.specs.declared.underlay.tunnels.SegmentTunnel.{SegmentTunnel}
use Rattle.overlay.specs.Overlay.{Overlay, tunnel_at}
use Rattle.overlay.specs.Seats.{Seats}
use Rattle.overlay.specs.UnderlaySettings.{port_of}
use Rattle.overlay.specs.Tunnels.{of_kind}

-- what all packets tell that are sent from an own address of these octets in a tunnel of this kind and VNI
abbrev pub fixed : Underlay → Tunnel → ℕ → List ℕ → Fixed
fixed U kind vni src =
    record { next_hop = U.next_hop; mac = U.mac; ttl = U.ttl; src = src; dport = port_of U kind; tunnel = tunnel_header kind vni }

-- over each family of which the endpoint has an address, where a segment has such a tunnel
abbrev pub tunnel_heads : Underlay → Tunnel → Option SegmentTunnel → TunnelHeads
tunnel_heads U kind tunnel =
    record {
      v4 = option_and_then (λ t. option_map (fixed U kind t.vni) U.ip4) tunnel;
      v6 = option_and_then (λ t. option_map (fixed U kind t.vni) U.ip6) tunnel;
    }

-- in both tunnels of a segment
abbrev pub segment_heads : Underlay → List SegmentTunnel → SegmentHeads
segment_heads U tunnels =
    record { vxlan = tunnel_heads U Vxlan (of_kind Vxlan tunnels); geneve = tunnel_heads U Geneve (of_kind Geneve tunnels) }

-- the heads of a tunnel of this kind
abbrev pub heads_of : SegmentHeads → Tunnel → TunnelHeads
heads_of heads Vxlan = heads.vxlan
heads_of heads Geneve = heads.geneve

-- what all packets tell in the tunnel of a kind of the segment with this VID, over IPv4 and over IPv6
abbrev pub head4_at : Overlay → ℕ → Tunnel → Option Fixed
head4_at S vid kind = option_and_then (λ t. option_map (fixed S.underlay kind t.vni) S.underlay.ip4) (tunnel_at S vid kind)

-- the same over IPv6
abbrev pub head6_at : Overlay → ℕ → Tunnel → Option Fixed
head6_at S vid kind = option_and_then (λ t. option_map (fixed S.underlay kind t.vni) S.underlay.ip6) (tunnel_at S vid kind)

-- the heads of each segment are those of its tunnels
abbrev pub AreHeads : Underlay → Seats → Type 0
AreHeads U seats = (vid : ℕ) → get seats.heads vid ≡ option_map (λ g. segment_heads U g.tunnels) (get seats.segments vid)
