-- UDP datagrams: RFC 768; their checksum over IPv6: RFC 8200, 8.1. A text p is an IP payload: a datagram, and a tail
-- behind the length that its header tells.
use Rattle.std.specs.Prelude.{◌≡◌, ℕ, ◌+◌, ◌==◌, ◌||◌, nat_lt, Bool, true, false, if◌then◌else◌, List, [], ◌∷◌, ◌++◌, length, take}
use Rattle.wire.specs.Octets.{field, octets}
use Rattle.wire.specs.Sum.{total, folded, pseudo4, pseudo6}
use Rattle.wire.specs.declared.ip_udp.addr.Addr.{Addr}
use Rattle.wire.specs.declared.ip_udp.addr.Addr.TheVariants.{V4, V6}
use Rattle.wire.specs.declared.ip_udp.udp_view.BadUdp.{BadUdp}
use Rattle.wire.specs.declared.ip_udp.udp_view.SumState.{SumState}
use Rattle.wire.specs.declared.ip_udp.udp_view.SumState.TheVariants.{Zero, Right, Partial, Wrong}
use Rattle.wire.specs.IpParts.{Parts, joined, cut}

-- ---- the fields

-- the source port
abbrev pub sport : List ℕ → ℕ
sport h = field 0 2 h

-- the destination port
abbrev pub dport : List ℕ → ℕ
dport h = field 2 2 h

-- the length, of header and data
abbrev pub udp_length : List ℕ → ℕ
udp_length h = field 4 2 h

-- the checksum; 0 means that there is none
abbrev pub udp_sum : List ℕ → ℕ
udp_sum h = field 6 2 h

-- the header before data d: its ports, length and checksum, of two octets each
abbrev pub udp_header : ℕ → ℕ → ℕ → List ℕ → List ℕ
udp_header sport dport sum d = octets 2 sport ++ (octets 2 dport ++ (octets 2 (8 + length d) ++ octets 2 sum))

-- ---- a datagram and its tail

-- a UDP header before n octets of data: 8 octets, and a length of itself and the data
pub record IsUdpHeader (h : List ℕ) (n : ℕ) : Type 0 where
  pub octets : length h ≡ 8
  pub total : udp_length h ≡ 8 + n

-- a text is a header, the data whose length it tells, and a tail
pub record SplitsUdp (p : List ℕ) (v : Parts) : Type 0 where
  pub header : IsUdpHeader v.head (length v.payload)
  pub whole : p ≡ joined v

-- ---- the same of a text by its places

-- the parts at the length that the text tells
abbrev pub udp_parts : List ℕ → Parts
udp_parts p = cut 8 (udp_length p) p

-- the data
abbrev pub data_of : List ℕ → List ℕ
data_of p = (udp_parts p).payload

-- the header and the data
abbrev pub datagram : List ℕ → List ℕ
datagram p = take (udp_length p) p

-- the text is no datagram: it has no room for a header, or tells a length below 8 or beyond what is there
abbrev pub is_bad_udp : List ℕ → Bool
is_bad_udp p = nat_lt (length p) 8 || nat_lt (udp_length p) 8 || nat_lt (length p) (udp_length p)

-- why a text is no datagram
abbrev pub udp_faults : List ℕ → List (BadUdp × Bool)
udp_faults p = (record {}, is_bad_udp p) ∷ []

-- ---- the checksum

-- the pseudo header that goes before a datagram of a length, between addresses of one family
abbrev pub pseudo : Addr → Addr → ℕ → List ℕ
pseudo (V4 src) (V4 dst) len = pseudo4 src dst len
pseudo (V4 src) (V6 dst) len = []
pseudo (V6 src) (V4 dst) len = []
pseudo (V6 src) (V6 dst) len = pseudo6 src dst len

-- the pseudo header and a datagram t, header and data, sum up to all ones
abbrev pub sums_up : Addr → Addr → List ℕ → Bool
sums_up src dst t = folded (total (pseudo src dst (length t) ++ t)) == 65535

-- the one's complement sum of the pseudo header before a datagram of a length, no complement of it taken: what a sender
-- writes as checksum that leaves it to its network card to add the words of the datagram and take the complement
abbrev pub partial_sum : Addr → Addr → ℕ → ℕ
partial_sum src dst len = folded (total (pseudo src dst len))

-- what the checksum of a datagram t, header and data, says: there is none; it is right, since the words of the pseudo
-- header and the datagram sum up to all ones; it is left to the card; or it is wrong
abbrev pub sum_state : Addr → Addr → List ℕ → SumState
sum_state src dst t =
    if udp_sum t == 0
    then Zero
    else (if sums_up src dst t then Right else (if udp_sum t == partial_sum src dst (length t) then Partial else Wrong))

-- it is left to the card
abbrev pub is_partial : SumState → Bool
is_partial Zero = false
is_partial Right = false
is_partial Partial = true
is_partial Wrong = false
