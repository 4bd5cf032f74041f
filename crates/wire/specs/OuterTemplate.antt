-- What is fixed in the heads of one tunnel's packets: the head of a packet in which all that differs is 0.
-- It states no standard.
use Rattle.std.specs.Prelude.{ℕ, ◌+◌, List, [], ◌∷◌, ◌++◌, replicate}
use Rattle.wire.specs.Octets.{octet, octets, field, part}
use Rattle.wire.specs.Sum.{total}
use Rattle.wire.specs.Datagram.{ether_type}
use Rattle.wire.specs.Ip.{Ip4, Ip6}
use Rattle.wire.specs.OuterPacket.{ip4_header, ip6_sent}

-- what all packets in a tunnel tell: MAC addresses of the next hop and of the endpoint, TTL, own address, the tunnel's UDP port,
-- and the tunnel header
pub record Fixed : Type 0 where
  pub next_hop : List ℕ
  pub mac : List ℕ
  pub ttl : ℕ
  pub src : List ℕ
  pub dport : ℕ
  pub tunnel : List ℕ

-- the UDP header whose source port, length and checksum are 0
abbrev pub blank_udp : ℕ → List ℕ
blank_udp dport = 0 ∷ 0 ∷ octets 2 dport ++ (0 ∷ 0 ∷ 0 ∷ 0 ∷ [])

-- the head over IPv4 whose lengths, checksums, destination and source port are 0
abbrev pub blank4 : Fixed → List ℕ
blank4 t = (t.next_hop ++ t.mac) ++ (ether_type Ip4 ++ (ip4_header t.ttl t.src (replicate 4 0) 0 0 ++ (blank_udp t.dport ++ t.tunnel)))

-- the same over IPv6
abbrev pub blank6 : Fixed → List ℕ
blank6 t = (t.next_hop ++ t.mac) ++ (ether_type Ip6 ++ (ip6_sent t.ttl t.src (replicate 16 0) 0 ++ (blank_udp t.dport ++ t.tunnel)))

-- what a head over IPv4 tells, by its places
abbrev pub fixed4 : List ℕ → Fixed
fixed4 b =
    record { next_hop = part 0 6 b; mac = part 6 6 b; ttl = octet 22 b; src = part 26 4 b; dport = field 36 2 b; tunnel = part 42 8 b }

-- and over IPv6
abbrev pub fixed6 : List ℕ → Fixed
fixed6 b =
    record { next_hop = part 0 6 b; mac = part 6 6 b; ttl = octet 21 b; src = part 22 16 b; dport = field 56 2 b; tunnel = part 62 8 b }

-- the sum of the fixed words of the IPv4 header
abbrev pub ip4_part : Fixed → ℕ
ip4_part t = total (ip4_header t.ttl t.src (replicate 4 0) 0 0)

-- the sum of the fixed words that a UDP checksum is taken of: own address and protocol in the pseudo header, the tunnel's port,
-- and the tunnel header
abbrev pub udp_part : Fixed → ℕ
udp_part t = total t.src + 17 + t.dport + total t.tunnel
