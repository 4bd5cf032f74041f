-- The network that a packet of the underlay names, and its sender (RFC 7348, 5; RFC 8926, 3).
use Rattle.std.specs.Prelude.{ℕ, Bool, if◌then◌else◌, List, [], ◌∷◌, Option, Some, None, is_none}
use Rattle.wire.specs.First.{first}
use Rattle.wire.specs.declared.ether.reason.Reason.{Reason}
use Rattle.wire.specs.declared.ether.reason.Reason.TheVariants.{BadUdp, NotTunnel}
use Rattle.wire.specs.Udp.{data_of, is_bad_udp}
use Rattle.wire.specs.declared.ip_udp.addr.Tunnel.{Tunnel}
use Rattle.overlay.specs.declared.underlay.settings.Underlay.{Underlay}
use Rattle.decapsulate.specs.Arrival.{Packet, frame_reasons, kind_to, packet_in, tunnel_reasons, vni_of}
use Rattle.tunnel_traffic.specs.declared.rows.key.TunnelKey.{TunnelKey}

-- at a port of a kind
abbrev pub key_of : Tunnel → Packet → TunnelKey
key_of kind p = record { kind = kind; vni = vni_of kind (data_of p.payload); address = p.source }

-- where a tunnel header stands there
abbrev pub key_at : Underlay → Packet → Option Tunnel → Option TunnelKey
key_at U p None = None
key_at U p (Some kind) = if is_none (first (tunnel_reasons U.known kind (data_of p.payload))) then Some (key_of kind p) else None

-- no datagram to a tunnel port, whatever its checksum says
abbrev pub port_reasons : Underlay → Packet → List (Reason × Bool)
port_reasons U p = (BadUdp, is_bad_udp p.payload) ∷ (NotTunnel, is_none (kind_to U p)) ∷ []

-- where the packet has one
abbrev pub key_by : Underlay → Packet → Option TunnelKey
key_by U p = if is_none (first (port_reasons U p)) then key_at U p (kind_to U p) else None

-- where the text has a packet
abbrev pub key_in : Underlay → List ℕ → Option TunnelKey
key_in U b = if is_none (first (frame_reasons b)) then key_by U (packet_in b) else None
