-- The layers of a packet of the underlay, and why taking them off stops. It states no standard. Each is read as an endpoint
-- reads it that takes packets from a tunnel, and the reasons are those for which it would refuse the packet. What it asks for
-- its own sake is left aside: who sent the packet, to whom, and for which segment.
--     refusal      the reason of an endpoint
--     dissection      the layers
use Rattle.std.specs.Prelude.{ℕ, zero, suc, ◌==◌, ◌&&◌, nat_le, Bool, if◌then◌else◌, List, length, filter, Option, Some, None}
use Rattle.wire.specs.First.{first}
use Rattle.wire.specs.Reason.{number_of}
use Rattle.wire.specs.declared.ether.reason.Reason.{Reason}
use Rattle.wire.specs.declared.ether.reason.Reason.TheVariants.{Runt, NotIp, BadIpSum, Fragment, BadUdp, NotTunnel, ZeroSum, CriticalOption}
use Rattle.wire.specs.Ip.{Family, Ip4 as family_4, Ip6 as family_6, packet_parts}
use Rattle.wire.specs.Udp.{udp_parts}
use Rattle.wire.specs.Datagram.{family, tags_text}
use Rattle.wire.specs.declared.ip_udp.addr.Tunnel.{Tunnel}
use Rattle.wire.specs.declared.ip_udp.addr.Tunnel.TheVariants as tunnel
use Rattle.overlay.specs.Overlay.{Overlay}
use Rattle.decapsulate.specs.Arrival.{outer_reasons, packet_in, kind_to, header_octets}
use Rattle.packet_layers.specs.Apart.{Apart, whole, split, put}
use Rattle.packet_layers.specs.declared.kind.HeadKind.{HeadKind}
use Rattle.packet_layers.specs.declared.kind.HeadKind.TheVariants.{Ether, Tag, Kind, Ip4, Ip6, Udp, Vxlan, Geneve}
use Rattle.packet_layers.specs.declared.kind.Stop.{Stop}
use Rattle.packet_layers.specs.declared.kind.Stop.TheVariants.{At, Deep}

-- ---- the reasons

-- a reason is one of those from the first to the second, in the order of the checks
abbrev pub is_within : Reason → Reason → Reason → Bool
is_within from to reason = nat_le (number_of from) (number_of reason) && nat_le (number_of reason) (number_of to)

-- the rows of a table with these reasons
abbrev pub rows : Reason → Reason → List (Reason × Bool) → List (Reason × Bool)
rows from to table = filter (λ row. is_within from to row.0) table

-- the first of these reasons for which an endpoint refuses the packet b
unfoldable pub refusal : Overlay → Reason → Reason → List ℕ → Option Reason
refusal S from to b = first (rows from to (outer_reasons S b))

-- ---- what is taken off, layer by layer; b is the frame that the layers are of

-- a tag, where there is one
abbrev pub tag_off : Bool → Apart → Apart
tag_off there a = if there then put Tag 4 a else a

-- the type of a frame, where two octets are left
abbrev pub type_off : Apart → Apart
type_off a = if nat_le 2 (length a.payload.octets) then put Kind 2 a else a

-- the addresses of a frame, at most two tags, and the type
abbrev pub ether_off : List ℕ → Apart → Apart
ether_off b a =
    let tags = length (tags_text b) in
    type_off (tag_off (nat_le 8 tags) (tag_off (nat_le 4 tags) (put Ether 12 a)))

-- the head of a family
abbrev pub ip_kind : Family → HeadKind
ip_kind family_4 = Ip4
ip_kind family_6 = Ip6

-- the IP header; what stands behind the IP length is a tail
abbrev pub ip_off : List ℕ → Apart → Apart
ip_off b a = split (ip_kind (family b)) (packet_parts (family b) a.payload.octets) a

-- the UDP header; what stands behind the UDP length is a tail
abbrev pub udp_off : Apart → Apart
udp_off a = split Udp (udp_parts a.payload.octets) a

-- the head of a tunnel of a kind
abbrev pub tunnel_kind : Tunnel → HeadKind
tunnel_kind tunnel.Vxlan = Vxlan
tunnel_kind tunnel.Geneve = Geneve

-- the tunnel header, with its options
abbrev pub tunnel_off : Option Tunnel → Apart → Apart
tunnel_off (Some kind) a = put (tunnel_kind kind) (header_octets kind a.payload.octets) a
tunnel_off None a = a

-- ---- the frames, from the outside in

-- what is taken off, and why no more is
pub record Taken : Type 0 where
  pub apart : Apart
  pub stop : Option Stop

-- no more is taken off, for this cause
abbrev pub stopped : Stop → Apart → Taken
stopped stop a = record { apart = a; stop = Some stop }

-- what is taken off so far where there is a reason, else what comes of the next layer
abbrev pub unless_stopped : Option Reason → Apart → Taken → Taken
unless_stopped (Some reason) a next = stopped (At reason) a
unless_stopped None a next = next

-- a frame's layers, where so many more tunnel headers may be taken off
unfoldable pub frame_off : Overlay → ℕ → Apart → Taken
frame_off S left a =
    let b = a.payload.octets in
    let ether = ether_off b a in
    let ip = ip_off b ether in
    let udp = udp_off ip in
    let kind = kind_to S.underlay (packet_in b) in
    unless_stopped (refusal S Runt Runt b) a (
    unless_stopped (refusal S NotIp BadIpSum b) ether (
    unless_stopped (refusal S Fragment BadUdp b) ip (
    unless_stopped (refusal S NotTunnel NotTunnel b) udp (
    if left == 0
    then stopped Deep udp
    else unless_stopped (refusal S ZeroSum CriticalOption b) udp (record { apart = tunnel_off kind udp; stop = None })
    )
    )
    )
    )

-- the layers that are taken off, and why no more are
pub record Layers : Type 0 where
  pub apart : Apart
  pub stop : Stop

-- the layers, where taking them off stops here; else those that come next
abbrev pub or_next : Option Stop → Apart → Layers → Layers
or_next (Some stop) a next = record { apart = a; stop = stop }
or_next None a next = next

-- behind a tunnel header stands another frame; the last one isn't passed
abbrev pub layers_from : Overlay → ℕ → Apart → Layers
layers_from S zero a =
    let t = frame_off S 0 a in
    or_next t.stop t.apart (record { apart = t.apart; stop = Deep })
layers_from S (suc n) a =
    let t = frame_off S (suc n) a in
    or_next t.stop t.apart (layers_from S n t.apart)

-- the layers of a packet, with at most so many tunnel headers
abbrev pub dissection : Overlay → ℕ → List ℕ → Layers
dissection S depth b = layers_from S depth (whole b)
