-- An outer packet as it is sent by the settings of an endpoint. It states no standard.
use Rattle.std.specs.Prelude.{ℕ, List}
use Rattle.wire.specs.declared.ip_udp.addr.Addr.{Addr}
use Rattle.wire.specs.declared.ip_udp.addr.Addr.TheVariants.{V4, V6}
use Rattle.overlay.specs.declared.underlay.settings.Underlay.{Underlay}
use Rattle.overlay.specs.UnderlaySettings.{hop_to}
pub use Rattle.wire.specs.OuterPacket.{tunnel_header, tunnelled, frame_sum, sum_sent, udp_sent}
pub use Rattle.wire.specs.OuterPacket.{ip4_header, ip4_sent, ip6_sent, packet4, packet6}

-- the packet with a UDP datagram with data d, from the own address of these octets to an address of its family
abbrev pub packet : Underlay → List ℕ → Addr → ℕ → ℕ → List ℕ → List ℕ
packet U src (V4 dst) sport dport d = packet4 (hop_to U (V4 dst)) U.mac U.ttl U.sum4 src dst sport dport d
packet U src (V6 dst) sport dport d = packet6 (hop_to U (V6 dst)) U.mac U.ttl U.sum6 src dst sport dport d
