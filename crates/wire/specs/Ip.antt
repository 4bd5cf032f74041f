-- IP packets: RFC 791, 3.1 (IPv4); RFC 8200, 3 (IPv6). A header's field is named by where it stands in it. A text r is
-- what stands behind the type of a frame: a packet, and a trailer behind the length that its header tells.
use Rattle.std.specs.Prelude.{◌≡◌, ◌≤◌, ℕ, ◌+◌, ◌*◌, ◌/◌, ◌%◌, ◌==◌, ◌||◌, nat_lt, Bool, false, not, List, [], ◌∷◌, length}
use Rattle.wire.specs.Octets.{octet, field, part}
use Rattle.wire.specs.Sum.{total, folded}
use Rattle.wire.specs.declared.ip_udp.addr.Addr.{Addr}
use Rattle.wire.specs.declared.ip_udp.addr.Addr.TheVariants.{V4, V6}
use Rattle.wire.specs.declared.ip_udp.ip_fault.IpFault.{IpFault}
use Rattle.wire.specs.declared.ip_udp.ip_fault.IpFault.TheVariants.{BadIp, BadIpSum}
use Rattle.wire.specs.IpParts.{Parts, joined, cut}

-- the families of addresses and headers
pub data Family : Type 0 where
  Ip4 : Family
  Ip6 : Family

-- ---- the fields

-- the version, in the first four bits
abbrev pub version : List ℕ → ℕ
version h = octet 0 h / 16

-- IPv4's internet header length, in words of 32 bits
abbrev pub ihl : List ℕ → ℕ
ihl h = octet 0 h % 16

-- the octets of the header; IPv4 has options behind the first 20
abbrev pub header_length : Family → List ℕ → ℕ
header_length Ip4 h = 4 * ihl h
header_length Ip6 h = 40

-- IPv4's total length, of header and payload
abbrev pub total_length : List ℕ → ℕ
total_length h = field 2 2 h

-- IPv6's payload length
abbrev pub payload_length : List ℕ → ℕ
payload_length h = field 4 2 h

-- the octets of the header and the payload
abbrev pub packet_length : Family → List ℕ → ℕ
packet_length Ip4 h = total_length h
packet_length Ip6 h = 40 + payload_length h

-- IPv4's flag More Fragments
abbrev pub has_more_fragments : List ℕ → Bool
has_more_fragments h = field 6 2 h / 8192 % 2 == 1

-- IPv4's fragment offset, of 13 bits
abbrev pub fragment_offset : List ℕ → ℕ
fragment_offset h = field 6 2 h % 8192

-- the protocol; in IPv6 the next header
abbrev pub protocol : Family → List ℕ → ℕ
protocol Ip4 h = octet 9 h
protocol Ip6 h = octet 6 h

-- a part of a larger packet: More Fragments is set or the offset isn't 0; in IPv6 the next header is Fragment
abbrev pub is_fragment : Family → List ℕ → Bool
is_fragment Ip4 h = has_more_fragments h || not (fragment_offset h == 0)
is_fragment Ip6 h = protocol Ip6 h == 44

-- the source address
abbrev pub source : Family → List ℕ → Addr
source Ip4 h = V4 (part 12 4 h)
source Ip6 h = V6 (part 8 16 h)

-- the destination address
abbrev pub destination : Family → List ℕ → Addr
destination Ip4 h = V4 (part 16 4 h)
destination Ip6 h = V6 (part 24 16 h)

-- ---- a packet and its trailer

-- an IPv4 header before a payload of n octets: version 4, an IHL of at least 5, as long as its IHL says, and a total
-- length of itself and the payload
pub record IsHeader4 (h : List ℕ) (n : ℕ) : Type 0 where
  pub version : version h ≡ 4
  pub shortest : 5 ≤ ihl h
  pub octets : length h ≡ header_length Ip4 h
  pub total : total_length h ≡ length h + n

-- an IPv6 header before a payload of n octets: version 6, 40 octets, and the payload's length
pub record IsHeader6 (h : List ℕ) (n : ℕ) : Type 0 where
  pub version : version h ≡ 6
  pub octets : length h ≡ 40
  pub total : payload_length h ≡ n

-- a header of either family before a payload of n octets
abbrev pub IsHeader : Family → List ℕ → ℕ → Type 0
IsHeader Ip4 h n = IsHeader4 h n
IsHeader Ip6 h n = IsHeader6 h n

-- a text is a header, the payload whose length it tells, and a trailer; the header's checksum is left aside
pub record SplitsIp (f : Family) (r : List ℕ) (v : Parts) : Type 0 where
  pub header : IsHeader f v.head (length v.payload)
  pub whole : r ≡ joined v

-- IPv4's header checksum is right: the header's words, options included, sum up to all ones; IPv6 has none
abbrev pub IsSumRight : Family → List ℕ → Type 0
IsSumRight Ip4 h = folded (total h) ≡ 65535
IsSumRight Ip6 h = Unit {0}

-- ---- the same of a text by its places

-- the parts at the lengths that the text tells
abbrev pub packet_parts : Family → List ℕ → Parts
packet_parts f r = cut (header_length f r) (packet_length f r) r

-- the payload, without header and trailer
abbrev pub payload : Family → List ℕ → List ℕ
payload f r = (packet_parts f r).payload

-- the text is no packet: it has no room for a header, another version, too small an IHL, or tells a length below its
-- header or beyond what is there
abbrev pub is_bad_ip : Family → List ℕ → Bool
is_bad_ip Ip4 r =
    nat_lt (length r) 20 || not (version r == 4) || nat_lt (ihl r) 5
    || nat_lt (packet_length Ip4 r) (header_length Ip4 r) || nat_lt (length r) (packet_length Ip4 r)
is_bad_ip Ip6 r = nat_lt (length r) 40 || not (version r == 6) || nat_lt (length r) (packet_length Ip6 r)

-- the checksum of the header of an IPv4 packet is wrong
abbrev pub is_bad_ip_sum : Family → List ℕ → Bool
is_bad_ip_sum Ip4 r = not (folded (total (packet_parts Ip4 r).head) == 65535)
is_bad_ip_sum Ip6 r = false

-- why a text is no packet, in the order of the checks
abbrev pub ip_faults : Family → List ℕ → List (IpFault × Bool)
ip_faults f r = (BadIp, is_bad_ip f r) ∷ (BadIpSum, is_bad_ip_sum f r) ∷ []
