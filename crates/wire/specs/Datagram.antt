-- A UDP datagram in an IP packet in an Ethernet frame, as one text of parts side by side
-- (RFC 768; RFC 791, 3.1; RFC 8200, 3; over Ethernet RFC 894 and RFC 2464, 3).
use Rattle.std.specs.Prelude.{◌≡◌, ◌<◌, ◌≤◌, ℕ, ◌+◌, ◌-◌, ◌^◌, ◌==◌, ◌||◌, nat_lt, Bool, false}
use Rattle.std.specs.Prelude.{not, if◌then◌else◌, List, [], ◌∷◌, ◌++◌, length, take, drop}
use Rattle.std.specs.List.{concat, AllByRecursion}
use Rattle.wire.specs.Octets.{begins}
use Rattle.wire.specs.Tag.{IsOuterTag, without_tags}
use Rattle.wire.specs.declared.ether.reason.Reason.{Reason}
use Rattle.wire.specs.declared.ether.reason.Reason.TheVariants.{Runt, NotIp, BadIp, BadIpSum, Fragment, NotUdp, BadUdp}
use Rattle.wire.specs.declared.ip_udp.addr.Addr.{Addr}
use Rattle.wire.specs.Ip.{Family, Ip4, Ip6, IsHeader, IsSumRight, is_fragment, protocol}
use Rattle.wire.specs.Ip.{source, destination, packet_parts, payload, is_bad_ip, is_bad_ip_sum}
use Rattle.wire.specs.Udp.{sport, dport, udp_sum, udp_length, udp_header, udp_parts, datagram, data_of, is_bad_udp}

-- the type of a frame with an IPv4 packet (RFC 894), and with an IPv6 packet (RFC 2464, 3)
abbrev pub ether_type : Family → List ℕ
ether_type Ip4 = 0x08 ∷ 0x00 ∷ []
ether_type Ip6 = 0x86 ∷ 0xDD ∷ []

-- a header before a UDP payload of n octets: its checksum is right, it is no fragment, and it has these addresses
pub record IsUdpCarrier (f : Family) (h : List ℕ) (src dst : Addr) (n : ℕ) : Type 0 where
  pub header : IsHeader f h n
  pub sum : IsSumRight f h
  pub is_whole : is_fragment f h ≡ false
  pub protocol : protocol f h ≡ 17
  pub src_is : src ≡ source f h
  pub dst_is : dst ≡ destination f h

-- b is two addresses, at most two tags, a type, an IP header, a UDP header, data d, a tail behind the UDP length and a
-- trailer behind the IP length, side by side
pub record Datagram (b : List ℕ) (src dst : Addr) (sport dport sum : ℕ) (d : List ℕ) : Type 0 where
  pub family : Family
  pub addresses : List ℕ
  pub tags : List (List ℕ)
  pub head : List ℕ
  pub tail : List ℕ
  pub trailer : List ℕ
  pub twelve : length addresses ≡ 12
  pub at_most_two : length tags ≤ 2
  pub are_tags : AllByRecursion IsOuterTag tags
  pub is_carrier : IsUdpCarrier family head src dst (8 + length d + length tail)
  pub fits : (sport < 2 ^ 16) × (dport < 2 ^ 16) × (sum < 2 ^ 16) × (8 + length d < 2 ^ 16)
  pub whole : b
      ≡ addresses ++ (concat tags ++ (ether_type family ++ (head ++ ((udp_header sport dport sum d ++ (d ++ tail)) ++ trailer))))

-- ---- the same of a text by its places

-- behind the addresses and at most two tags: the type and the rest
abbrev pub behind_tags : List ℕ → List ℕ
behind_tags b = without_tags 2 (drop 12 b)

-- a text begins with the type of this family
abbrev pub has_type : Family → List ℕ → Bool
has_type f t = begins (ether_type f) t

-- behind the tags stands a type of IP
abbrev pub is_ip : List ℕ → Bool
is_ip b = has_type Ip4 (behind_tags b) || has_type Ip6 (behind_tags b)

-- the family that the type names, where it is one of IP
abbrev pub family : List ℕ → Family
family b = if has_type Ip4 (behind_tags b) then Ip4 else Ip6

-- what stands behind the type
abbrev pub ip_text : List ℕ → List ℕ
ip_text b = drop 2 (behind_tags b)

-- the payload of the packet behind the type
abbrev pub ip_payload : List ℕ → List ℕ
ip_payload b = payload (family b) (ip_text b)

-- why a text r is no whole IP packet with a datagram in it, in the order of the checks
abbrev pub udp_reasons : Family → List ℕ → List (Reason × Bool)
udp_reasons f r =
    (BadIp, is_bad_ip f r)
    ∷ (BadIpSum, is_bad_ip_sum f r)
    ∷ (Fragment, is_fragment f r)
    ∷ (NotUdp, not (protocol f r == 17))
    ∷ (BadUdp, is_bad_udp (payload f r))
    ∷ []

-- why a text b is no frame with a datagram in it
abbrev pub datagram_reasons : List ℕ → List (Reason × Bool)
datagram_reasons b = (Runt, nat_lt (length b) 14) ∷ (NotIp, not (is_ip b)) ∷ udp_reasons (family b) (ip_text b)

-- the tags in front of the type, side by side
abbrev pub tags_text : List ℕ → List ℕ
tags_text b = let behind = drop 12 b in take (length behind - length (behind_tags b)) behind

-- the datagram of a text by its places
pub record HasParts (b : List ℕ) (src dst : Addr) (from to sum : ℕ) (d : List ℕ) : Type 0 where
  pub source_is : source (family b) (ip_text b) ≡ src
  pub destination_is : destination (family b) (ip_text b) ≡ dst
  pub sport_is : sport (ip_payload b) ≡ from
  pub dport_is : dport (ip_payload b) ≡ to
  pub sum_is : udp_sum (ip_payload b) ≡ sum
  pub length_is : udp_length (ip_payload b) ≡ 8 + length d
  pub datagram_is : datagram (ip_payload b) ≡ udp_header from to sum d ++ d
  pub data_is : data_of (ip_payload b) ≡ d

-- and what stands round it, from the outside in
pub record HasRest (b : List ℕ) (f : Family) (addresses tags head tail trailer : List ℕ) : Type 0 where
  pub addresses_are : take 12 b ≡ addresses
  pub tags_are : tags_text b ≡ tags
  pub family_is : family b ≡ f
  pub head_is : (packet_parts (family b) (ip_text b)).head ≡ head
  pub trailer_is : (packet_parts (family b) (ip_text b)).tail ≡ trailer
  pub tail_is : (udp_parts (ip_payload b)).tail ≡ tail
