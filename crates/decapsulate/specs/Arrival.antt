-- What arrives in an outer packet (RFC 7348, 4 and 5; RFC 8926, 3).
--     outer_reasons, inner_reasons      why nothing arrives, in the order of the checks
--     arrival      what arrives, or the first of the reasons
--     Arrives      the same in whole texts
use Rattle.std.specs.Prelude.{◌≡◌, ◌≢◌, ◌↔◌, ◌<◌, ◌⊎◌, ℕ, ◌+◌, ◌==◌, ◌&&◌, ◌||◌, nat_lt, Bool}
use Rattle.std.specs.Prelude.{true, false, not, IsTrue, if◌then◌else◌, List, [], ◌∷◌, ◌++◌}
use Rattle.std.specs.Prelude.{length, drop, map, Option, Some, None, is_none, Result, Ok, Err}
use Rattle.wire.specs.Octets.{IsText}
use Rattle.wire.specs.Sum.{total, folded}
use Rattle.wire.specs.Address.{is_group as is_group_mac, is_reserved}
use Rattle.wire.specs.Ether.{has_tag}
use Rattle.wire.specs.First.{first, unless}
use Rattle.wire.specs.Frame.{IsFrame, plain, frame_of}
use Rattle.wire.specs.Refusal.{as_refused}
use Rattle.wire.specs.Tag.{begins_tag}
use Rattle.wire.specs.declared.ether.reason.Reason.{Reason}
use Rattle.wire.specs.declared.ether.reason.Reason.TheVariants.{TooLong, Sliced, Runt, BadSource, Reserved, NotIp, BadIp}
use Rattle.wire.specs.declared.ether.reason.Reason.TheVariants.{BadIpSum, BadOuterSource, NotForUs, Fragment, NotUdp}
use Rattle.wire.specs.declared.ether.reason.Reason.TheVariants.{BadUdp, NotTunnel, ZeroSum, BadUdpSum, UnknownVni}
use Rattle.wire.specs.declared.ether.reason.Reason.TheVariants.{WrongGroup, UnknownPeer, InnerRunt, InnerTag}
use Rattle.wire.specs.declared.ether.reason.Refused.{Refused}
use Rattle.wire.specs.declared.ip_udp.addr.Addr.{Addr}
use Rattle.wire.specs.declared.ip_udp.addr.Addr.TheVariants.{V4, V6}
use Rattle.wire.specs.declared.ip_udp.addr.Tunnel.{Tunnel}
use Rattle.wire.specs.declared.ip_udp.addr.Tunnel.TheVariants.{Vxlan, Geneve}
use Rattle.wire.specs.declared.ip_udp.udp_view.SumState.{SumState}
use Rattle.wire.specs.declared.ip_udp.udp_view.SumState.TheVariants.{Zero, Right, Partial, Wrong}
use Rattle.wire.specs.Addr.{is_group, is_usable}
use Rattle.wire.specs.IpParts.{Parts}
use Rattle.wire.specs.Ip.{Family, Ip4, Ip6, header_length, is_bad_ip, is_bad_ip_sum}
use Rattle.wire.specs.Ip.{is_fragment, protocol, source, destination, payload}
use Rattle.wire.specs.Udp.{dport, udp_header, datagram, data_of, is_bad_udp, pseudo, partial_sum, sum_state}
use Rattle.wire.specs.Datagram.{Datagram, has_type, is_ip, family, ip_text, tags_text}
use Rattle.wire.specs.Vxlan.{IsVxlan}
use Rattle.wire.specs.VxlanReading.{vxlan_vni, vxlan_inner, vxlan_faults, reason_of as vxlan_reason}
use Rattle.wire.specs.GeneveOptions.{TunnelOption, allowed}
use Rattle.wire.specs.Geneve.{IsGeneve}
use Rattle.wire.specs.GeneveReading.{head_length, geneve_vni, geneve_inner, geneve_faults, reason_of as geneve_reason}
use Rattle.overlay.specs.declared.underlay.segment.Segment.{Segment}
use Rattle.overlay.specs.declared.underlay.settings.Underlay.{Underlay}
use Rattle.overlay.specs.UnderlaySettings.{is_own, kind_at, port_of}
use Rattle.overlay.specs.Overlay.{Overlay, segment_by, floods, is_listed, drops_tags}
pub use Rattle.decapsulate.specs.declared.arrived.Arrived.{Arrived}

-- ---- the tunnel header by its places

-- the network's number in it (VNI)
abbrev pub vni_of : Tunnel → List ℕ → ℕ
vni_of Vxlan d = vxlan_vni d
vni_of Geneve d = geneve_vni d

-- the text behind the header
abbrev pub inner_of : Tunnel → List ℕ → List ℕ
inner_of Vxlan d = vxlan_inner d
inner_of Geneve d = geneve_inner d

-- a table of faults as one of reasons
abbrev pub as_reasons : {A : Type 0} → (A → Reason) → List (A × Bool) → List (Reason × Bool)
as_reasons reason_of faults = map (λ row. (reason_of row.0, row.1)) faults

-- why a text has no header of this kind, or none that is taken
abbrev pub tunnel_reasons : List (ℕ × ℕ) → Tunnel → List ℕ → List (Reason × Bool)
tunnel_reasons known Vxlan d = as_reasons vxlan_reason (vxlan_faults d)
tunnel_reasons known Geneve d = as_reasons geneve_reason (geneve_faults known d)

-- ---- the outer packet by its places

-- an IP packet, as far as the checks ask for it
pub record Packet : Type 0 where
  pub source : Addr
  pub destination : Addr
  pub is_fragment : Bool
  pub protocol : ℕ
  pub payload : List ℕ

-- the packet of a family that a text begins with
abbrev pub packet_at : Family → List ℕ → Packet
packet_at f r = record {
  source = source f r;
  destination = destination f r;
  is_fragment = is_fragment f r;
  protocol = protocol f r;
  payload = payload f r;
}

-- the same of a packet of a family in its parts
abbrev pub packet_of : Family → Parts → Packet
packet_of f v = record {
  source = source f v.head;
  destination = destination f v.head;
  is_fragment = is_fragment f v.head;
  protocol = protocol f v.head;
  payload = v.payload;
}

-- the packet in a frame
abbrev pub packet_in : List ℕ → Packet
packet_in b = packet_at (family b) (ip_text b)

-- the kind of tunnel that its UDP destination port is for, if that is a tunnel port
abbrev pub kind_to : Underlay → Packet → Option Tunnel
kind_to U p = kind_at U (dport p.payload)

-- what its UDP checksum says
abbrev pub sum_of : Packet → SumState
sum_of p = sum_state p.source p.destination (datagram p.payload)

-- ---- why nothing arrives, before the segment is asked for: the first reason that holds, in the order of the tables. What
-- a test says is of no account where an earlier one holds

-- no address of a single other endpoint: not usable, a group's, or one's own
abbrev pub is_bad_source : Underlay → Addr → Bool
is_bad_source U a = not (is_usable a) || is_group a || is_own U a

-- neither a group nor one's own address
abbrev pub is_elsewhere : Underlay → Addr → Bool
is_elsewhere U a = not (is_group a || is_own U a)

-- datagrams from this address need a checksum: over IPv6, unless the settings say otherwise (RFC 8200, 8.1; RFC 6935, 5)
abbrev pub needs_sum : Underlay → Addr → Bool
needs_sum U (V4 b) = false
needs_sum U (V6 b) = not U.zero6

-- there is none
abbrev pub is_zero : SumState → Bool
is_zero Zero = true
is_zero Right = false
is_zero Partial = false
is_zero Wrong = false

-- it is refused: wrong, or left to the sender's card, unless the settings take that
abbrev pub is_wrong : Underlay → SumState → Bool
is_wrong U Zero = false
is_wrong U Right = false
is_wrong U Partial = not U.partial
is_wrong U Wrong = true

-- no IP packet of this family
abbrev pub ip_reasons : Family → List ℕ → List (Reason × Bool)
ip_reasons f r = (BadIp, is_bad_ip f r) ∷ (BadIpSum, is_bad_ip_sum f r) ∷ []

-- the family of the type that a text begins with
abbrev pub family_named : List ℕ → Family
family_named t = if has_type Ip4 t then Ip4 else Ip6

-- why a text that begins with a type is no IP packet
abbrev pub typed_reasons : List ℕ → List (Reason × Bool)
typed_reasons t = (NotIp, not (has_type Ip4 t || has_type Ip6 t)) ∷ ip_reasons (family_named t) (drop 2 t)

-- no frame with an IP packet
abbrev pub frame_reasons : List ℕ → List (Reason × Bool)
frame_reasons b = (Runt, nat_lt (length b) 14) ∷ (NotIp, not (is_ip b)) ∷ ip_reasons (family b) (ip_text b)

-- no whole packet from another endpoint to this one that carries UDP
abbrev pub packet_reasons : Underlay → Packet → List (Reason × Bool)
packet_reasons U p =
    (BadOuterSource, is_bad_source U p.source)
    ∷ (NotForUs, is_elsewhere U p.destination)
    ∷ (Fragment, p.is_fragment)
    ∷ (NotUdp, not (p.protocol == 17))
    ∷ []

-- why a datagram from an address isn't taken whose checksum says this
abbrev pub sum_reasons : Underlay → Addr → SumState → List (Reason × Bool)
sum_reasons U a state = (ZeroSum, is_zero state && needs_sum U a) ∷ (BadUdpSum, is_wrong U state) ∷ []

-- no datagram to a tunnel port, or none whose checksum is taken
abbrev pub datagram_reasons : Underlay → Packet → List (Reason × Bool)
datagram_reasons U p =
    (BadUdp, is_bad_udp p.payload)
    ∷ (NotTunnel, is_none (kind_to U p))
    ∷ sum_reasons U p.source (sum_of p)

-- no tunnel header in its data, at a port of a kind
abbrev pub data_reasons : List (ℕ × ℕ) → Option Tunnel → List ℕ → List (Reason × Bool)
data_reasons known None d = []
data_reasons known (Some kind) d = tunnel_reasons known kind d

-- a packet that carries nothing, from its header to the tunnel header
abbrev pub carried_reasons : Underlay → Packet → List (Reason × Bool)
carried_reasons U p = packet_reasons U p ++ (datagram_reasons U p ++ data_reasons U.known (kind_to U p) (data_of p.payload))

-- all of them, from the Ethernet header to the tunnel header
abbrev pub outer_reasons : Overlay → List ℕ → List (Reason × Bool)
outer_reasons S b = frame_reasons b ++ carried_reasons S.underlay (packet_in b)

-- ---- the inner text

-- why an inner text e, from address a to address b, isn't let into a segment
abbrev pub inner_reasons : Segment → Tunnel → Addr → Addr → List ℕ → List (Reason × Bool)
inner_reasons g kind a b e =
    (WrongGroup, is_group b && not (floods g kind b))
    ∷ (UnknownPeer, is_listed g && not (floods g kind a))
    ∷ (InnerRunt, nat_lt (length e) 14)
    ∷ (BadSource, is_group_mac (frame_of e).src)
    ∷ (Reserved, is_reserved (frame_of e).dst)
    ∷ (InnerTag, has_tag e && drops_tags g)
    ∷ []

-- ---- what arrives

-- what the inner text e brings, from address a to address b, in the segment of a VID
abbrev pub arrival_in : Option (ℕ × Segment) → Tunnel → Addr → Addr → List ℕ → Result Arrived Refused
arrival_in None kind a b e = Err (record { segment = None; reason = UnknownVni })
arrival_in (Some found) kind a b e =
    unless (as_refused (Some found.0) (first (inner_reasons found.1 kind a b e)))
    (Ok (record { vid = found.0; from = (kind, a); frame = frame_of e }))

-- what the data d brings, from address a to address b, at a port of a kind
abbrev pub arrival_by : Overlay → Option Tunnel → Addr → Addr → List ℕ → Result Arrived Refused
arrival_by S None a b d = Err (record { segment = None; reason = NotTunnel })
arrival_by S (Some kind) a b d = arrival_in (segment_by S kind (vni_of kind d)) kind a b (inner_of kind d)

-- what a whole packet brings, or the first reason why it brings nothing
abbrev pub arrival : Overlay → List ℕ → Result Arrived Refused
arrival S b =
    let p = packet_in b in
    unless (as_refused None (first (outer_reasons S b))) (arrival_by S (kind_to S.underlay p) p.source p.destination (data_of p.payload))

-- the octets of a tunnel header, with its options
abbrev pub header_octets : Tunnel → List ℕ → ℕ
header_octets Vxlan d = 8
header_octets Geneve d = head_length d

-- where the inner text of a packet begins that came through a tunnel of a kind: behind two addresses, the tags, the type,
-- and the headers of IP, of UDP and of the tunnel
abbrev pub inner_place : Tunnel → List ℕ → ℕ
inner_place kind b =
    12 + length (tags_text b) + 2 + header_length (family b) (ip_text b) + 8 + header_octets kind (data_of (packet_in b).payload)

-- a record of a capture that is longer than a packet, or that is a part of one of this original length
abbrev pub capture_reasons : ℕ → List ℕ → List (Reason × Bool)
capture_reasons original b =
    (TooLong, nat_lt 65549 (length b))
    ∷ (Sliced, nat_lt (length b) original)
    ∷ []

-- what a record of a capture brings
abbrev pub arrival_of : Overlay → ℕ → List ℕ → Result Arrived Refused
arrival_of S original b = unless (as_refused None (first (capture_reasons original b))) (arrival S b)

-- ---- the same in whole texts

-- d is a tunnel header with this VNI, and the inner text e; each critical option of it is known
abbrev pub IsTunnelled : List (ℕ × ℕ) → Tunnel → List ℕ → ℕ → List ℕ → Type 0
IsTunnelled known Vxlan d vni e = IsVxlan d vni e
IsTunnelled known Geneve d vni e = (options : List TunnelOption) × IsGeneve d vni options e × IsTrue (allowed known options)

-- the checksum of the datagram with data d is right; or it is the sum of the pseudo header, and the settings take that
abbrev pub IsSumSound : Underlay → Addr → Addr → ℕ → ℕ → ℕ → List ℕ → Type 0
IsSumSound U src dst sport dport sum d =
    (folded (total (pseudo src dst (8 + length d) ++ (udp_header sport dport sum d ++ d))) ≡ 65535)
    ⊎ ((U.partial ≡ true) × (sum ≡ partial_sum src dst (8 + length d)))

-- it says that there is none, where none is needed, or it is one of these
abbrev pub IsSumTaken : Underlay → Addr → Addr → ℕ → ℕ → ℕ → List ℕ → Type 0
IsSumTaken U src dst sport dport sum d =
    ((sum ≡ 0) × (needs_sum U src ≡ false))
    ⊎ ((0 < sum) × IsSumSound U src dst sport dport sum d)

-- b is a datagram from another endpoint to this one, at the port of a kind of tunnel; in it stands the header of a
-- segment's tunnel, and in that a frame which the segment takes
pub record Arrives (S : Overlay) (b : List ℕ) (x : Arrived) : Type 0 where
  pub dst : Addr
  pub sport : ℕ
  pub sum : ℕ
  pub data_text : List ℕ
  pub vni : ℕ
  pub segment : Segment
  pub datagram : Datagram b x.from.1 dst sport (port_of S.underlay x.from.0) sum data_text
  pub sum_taken : IsSumTaken S.underlay x.from.1 dst sport (port_of S.underlay x.from.0) sum data_text
  pub good_source : is_bad_source S.underlay x.from.1 ≡ false
  pub for_us : is_elsewhere S.underlay dst ≡ false
  pub tunnel : IsTunnelled S.underlay.known x.from.0 data_text vni (plain x.frame)
  pub segment_is : segment_by S x.from.0 vni ≡ Some (x.vid, segment)
  pub in_group : (is_group dst ≡ false) ⊎ (floods segment x.from.0 dst ≡ true)
  pub peer : (is_listed segment ≡ false) ⊎ (floods segment x.from.0 x.from.1 ≡ true)
  pub is_frame : IsFrame x.frame
  pub no_priority : (x.frame.pcp ≡ 0) × (x.frame.dei ≡ false)
  pub individual : is_group_mac x.frame.src ≡ false
  pub unreserved : is_reserved x.frame.dst ≡ false
  pub tags : (begins_tag x.frame.body ≡ false) ⊎ (drops_tags segment ≡ false)

-- what a packet brings is what arrives by that, and nothing else
abbrev pub BringsWhatArrives : Type 0
BringsWhatArrives =
    (S : Overlay) (b : List ℕ) (x : Arrived) → S.underlay.vxlan_port ≢ S.underlay.geneve_port → IsText b
    → (arrival S b ≡ Ok x) ↔ Arrives S b x
