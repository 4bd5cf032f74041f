-- An outer packet as it is sent: Ethernet; IPv4 (RFC 791, 3.1) or IPv6 (RFC 8200, 3); UDP (RFC 768); VXLAN (RFC 7348, 5) or
-- Geneve (RFC 8926, 3.4); and the frame without a tag.
use Rattle.std.specs.Prelude.{ℕ, ◌+◌, Bool, if◌then◌else◌, List, ◌∷◌, ◌++◌, length}
use Rattle.wire.specs.Octets.{octets}
use Rattle.wire.specs.Sum.{total, folded, check, sent}
use Rattle.wire.specs.Frame.{Frame, plain}
use Rattle.wire.specs.declared.ip_udp.addr.Addr.{Addr}
use Rattle.wire.specs.declared.ip_udp.addr.Addr.TheVariants.{V4, V6}
use Rattle.wire.specs.declared.ip_udp.addr.Tunnel.{Tunnel}
use Rattle.wire.specs.declared.ip_udp.addr.Tunnel.TheVariants.{Vxlan, Geneve}
use Rattle.wire.specs.Datagram.{ether_type}
use Rattle.wire.specs.Ip.{Ip4, Ip6}
use Rattle.wire.specs.Udp.{pseudo, udp_header}
use Rattle.wire.specs.Vxlan.{vxlan_header}
use Rattle.wire.specs.Geneve.{geneve_header}

-- the tunnel header of a kind and VNI
abbrev pub tunnel_header : Tunnel → ℕ → List ℕ
tunnel_header Vxlan vni = vxlan_header vni
tunnel_header Geneve vni = geneve_header vni

-- what the UDP header stands before: the tunnel header and the frame
abbrev pub tunnelled : Tunnel → ℕ → Frame → List ℕ
tunnelled kind vni f = tunnel_header kind vni ++ plain f

-- the sum of a frame's octets without a tag, which all packets with the frame share
abbrev pub frame_sum : Frame → ℕ
frame_sum f = folded (total (plain f))

-- the checksum of the UDP header before data d, from an address to one of its family: computed, or 0 for none
abbrev pub sum_sent : Bool → Addr → Addr → ℕ → ℕ → List ℕ → ℕ
sum_sent is_computed src dst sport dport d =
    if is_computed then sent (pseudo src dst (8 + length d) ++ (udp_header sport dport 0 d ++ d)) else 0

-- that header
abbrev pub udp_sent : Bool → Addr → Addr → ℕ → ℕ → List ℕ → List ℕ
udp_sent is_computed src dst sport dport d = udp_header sport dport (sum_sent is_computed src dst sport dport d) d

-- the IPv4 header of a packet of len octets: IHL 5, type of service 0, identification 0, Don't Fragment, UDP
abbrev pub ip4_header : ℕ → List ℕ → List ℕ → ℕ → ℕ → List ℕ
ip4_header ttl src dst len sum =
    0x45 ∷ 0x00 ∷ octets 2 len ++ (0x00 ∷ 0x00 ∷ 0x40 ∷ 0x00 ∷ ttl ∷ 17 ∷ octets 2 sum ++ (src ++ dst))

-- the same with its checksum
abbrev pub ip4_sent : ℕ → List ℕ → List ℕ → ℕ → List ℕ
ip4_sent ttl src dst len = ip4_header ttl src dst len (check (ip4_header ttl src dst len 0))

-- the IPv6 header before len octets: traffic class 0, flow label 0, UDP
abbrev pub ip6_sent : ℕ → List ℕ → List ℕ → ℕ → List ℕ
ip6_sent ttl src dst len = 0x60 ∷ 0x00 ∷ 0x00 ∷ 0x00 ∷ octets 2 len ++ (17 ∷ ttl ∷ src ++ dst)

-- the packet with a UDP datagram with data d over IPv4: MAC addresses to and from, TTL, whether a checksum is computed, addresses
-- and ports
abbrev pub packet4 : List ℕ → List ℕ → ℕ → Bool → List ℕ → List ℕ → ℕ → ℕ → List ℕ → List ℕ
packet4 hop mac ttl is_computed src dst sport dport d =
    (hop ++ mac) ++ (ether_type Ip4
    ++ (ip4_sent ttl src dst (28 + length d) ++ (udp_sent is_computed (V4 src) (V4 dst) sport dport d ++ d)))

-- the same over IPv6
abbrev pub packet6 : List ℕ → List ℕ → ℕ → Bool → List ℕ → List ℕ → ℕ → ℕ → List ℕ → List ℕ
packet6 hop mac ttl is_computed src dst sport dport d =
    (hop ++ mac) ++ (ether_type Ip6
    ++ (ip6_sent ttl src dst (8 + length d) ++ (udp_sent is_computed (V6 src) (V6 dst) sport dport d ++ d)))
