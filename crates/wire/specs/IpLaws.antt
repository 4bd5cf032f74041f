-- Each grammar and its tests by place: a text has a split exactly where no test holds, and then one.
-- It states no standard.
use Rattle.std.specs.Prelude.{◌≡◌, ◌↔◌, ℕ, true, false, List, None}
use Rattle.std.specs.List.{concat}
use Rattle.wire.specs.Octets.{IsText}
use Rattle.wire.specs.First.{first}
use Rattle.wire.specs.declared.ip_udp.addr.Addr.{Addr}
use Rattle.wire.specs.IpParts.{Parts}
use Rattle.wire.specs.Ip.{Family, SplitsIp, packet_parts, is_bad_ip, source, destination}
use Rattle.wire.specs.Udp.{SplitsUdp, udp_parts, is_bad_udp, sport, dport, udp_sum, data_of}
use Rattle.wire.specs.Datagram.{Datagram, HasParts, HasRest, datagram_reasons, family, ip_text, ip_payload}

-- where the tests pass, the parts at the lengths that the text tells are a split
abbrev pub IpSplitIsFound : Type 0
IpSplitIsFound = (f : Family) (r : List ℕ) → is_bad_ip f r ≡ false → SplitsIp f r (packet_parts f r)

-- a split is that one, and where there is one the tests pass
abbrev pub IpSplitIsOnly : Type 0
IpSplitIsOnly = (f : Family) (r : List ℕ) (v : Parts) → SplitsIp f r v → (is_bad_ip f r ≡ false) × (packet_parts f r ≡ v)

-- so a test holds exactly where there is no split
abbrev pub BadIpHasNoSplit : Type 0
BadIpHasNoSplit = (f : Family) (r : List ℕ) → (is_bad_ip f r ≡ true) ↔ ((v : Parts) → ¬ SplitsIp f r v)

-- the same of UDP
abbrev pub UdpSplitIsFound : Type 0
UdpSplitIsFound = (p : List ℕ) → is_bad_udp p ≡ false → SplitsUdp p (udp_parts p)

-- and nothing else is a split of it
abbrev pub UdpSplitIsOnly : Type 0
UdpSplitIsOnly = (p : List ℕ) (v : Parts) → SplitsUdp p v → (is_bad_udp p ≡ false) × (udp_parts p ≡ v)

-- a text that is no datagram has none
abbrev pub BadUdpHasNoSplit : Type 0
BadUdpHasNoSplit = (p : List ℕ) → (is_bad_udp p ≡ true) ↔ ((v : Parts) → ¬ SplitsUdp p v)

-- a text for which no reason holds is a datagram of its parts by place
abbrev pub DatagramIsFound : Type 0
DatagramIsFound =
    (b : List ℕ) → IsText b → first (datagram_reasons b) ≡ None
    → Datagram b (source (family b) (ip_text b)) (destination (family b) (ip_text b))
    (sport (ip_payload b)) (dport (ip_payload b)) (udp_sum (ip_payload b)) (data_of (ip_payload b))

-- a datagram is refused for no reason, and each of its parts is the one by place
abbrev pub DatagramIsOnly : Type 0
DatagramIsOnly =
    (b : List ℕ) (src dst : Addr) (from to sum : ℕ) (d : List ℕ) (k : Datagram b src dst from to sum d)
    → (first (datagram_reasons b) ≡ None) × HasParts b src dst from to sum d
    × HasRest b k.family k.addresses (concat k.tags) k.head k.tail k.trailer
