-- What is sent to a remote endpoint, and why a frame isn't (RFC 7348, 4.3, 5 and 6.1; RFC 8926, 3.3).
use Rattle.std.specs.Prelude.{ℕ, ◌-◌, ◌&&◌, nat_lt, Bool, false, List, [], ◌∷◌, length, take}
use Rattle.std.specs.Prelude.{Option, Some, None, Result, Ok, Err}
use Rattle.std.specs.Option.{option_map_or}
use Rattle.wire.specs.First.{first}
use Rattle.wire.specs.Frame.{Frame, plain, size}
use Rattle.wire.specs.Tag.{begins_tag}
use Rattle.wire.specs.declared.ether.reason.Reason.{Reason}
use Rattle.wire.specs.declared.ether.reason.Reason.TheVariants.{TooBig, InnerTagOut}
use Rattle.wire.specs.declared.ip_udp.addr.Addr.{Addr}
use Rattle.wire.specs.declared.ip_udp.addr.Addr.TheVariants.{V4, V6}
use Rattle.wire.specs.declared.ip_udp.addr.Tunnel.{Tunnel}
use Rattle.overlay.specs.Flood.{own_of}
use Rattle.overlay.specs.declared.underlay.settings.Underlay.{Underlay}
use Rattle.overlay.specs.Overlay.{Overlay, segment_at, tunnel_at, drops_tags}
use Rattle.overlay.specs.UnderlaySettings.{own, port_of}
use Rattle.encapsulate.specs.Emission.{Parts, text, around}
use Rattle.encapsulate.specs.Flow.{source_port}
use Rattle.encapsulate.specs.Packet.{tunnelled, packet}

-- the octets of the outer IP, UDP and tunnel headers of a packet to an address (RFC 7348, 5; RFC 8926, 3)
abbrev pub headers : Addr → ℕ
headers (V4 dst) = 36
headers (V6 dst) = 56

-- the largest frame that is sent to an address: what these headers leave of the MTU
abbrev pub largest : Underlay → Addr → ℕ
largest U a = U.mtu - headers a

-- the segment with this VID drops frames in tunnels that begin with a tag
abbrev pub drops_tags_at : Overlay → ℕ → Bool
drops_tags_at S vid = option_map_or drops_tags (segment_at S vid) false

-- why a frame of a segment isn't sent to an address, in the order of the checks
abbrev pub unsent_reasons : Overlay → ℕ → Addr → Frame → List (Reason × Bool)
unsent_reasons S vid a f =
    (TooBig, nat_lt (largest S.underlay a) (size f))
    ∷ (InnerTagOut, begins_tag f.body && drops_tags_at S vid)
    ∷ []

-- the first reason why it isn't sent; None where it is
abbrev pub admits : Overlay → ℕ → Addr → Frame → Option Reason
admits S vid a f = first (unsent_reasons S vid a f)

-- the packet that a frame is sent in, with this VNI from the own address of these octets
abbrev pub packet_from : Underlay → Tunnel → ℕ → List ℕ → Addr → Frame → List ℕ
packet_from U kind vni src a f = packet U src a (source_port f) (port_of U kind) (tunnelled kind vni f)

-- the packet that a frame of a segment is sent in, to an address in a tunnel of a kind; the empty text where the segment has
-- no such tunnel, or the endpoint no address of that family
abbrev pub remote_text : Overlay → ℕ → Tunnel → Addr → Frame → List ℕ
remote_text S vid kind a f =
    elim (tunnel_at S vid kind) [
      | Some tunnel ↦ option_map_or (λ src. packet_from S.underlay kind tunnel.vni src a f) (own_of (own S.underlay) a) []
      | None ↦ []
    ]

-- the packet, or the reason why there is none
abbrev pub sending : Overlay → ℕ → Tunnel → Addr → Frame → Result (List ℕ) Reason
sending S vid kind a f = elim (admits S vid a f) [ Some reason ↦ Err reason | None ↦ Ok (remote_text S vid kind a f) ]

-- how many octets a result has, where it has any
abbrev pub sizes : Result (List ℕ) Reason → Result ℕ Reason
sizes (Ok octets) = Ok (length octets)
sizes (Err reason) = Err reason

-- ---- in parts

-- what stands before the end of a text
abbrev pub before : List ℕ → List ℕ → List ℕ
before end whole = take (length whole - length end) whole

-- the packet in its parts: the outer headers, which are all that stands before the frame, and the frame without a tag
abbrev pub remote_parts : Overlay → ℕ → Tunnel → Addr → Frame → Parts
remote_parts S vid kind a f = around (before (plain f) (remote_text S vid kind a f)) [] f

-- these, or the reason why there is no packet
abbrev pub sending_parts : Overlay → ℕ → Tunnel → Addr → Frame → Result Parts Reason
sending_parts S vid kind a f =
    elim (admits S vid a f) [ Some reason ↦ Err reason | None ↦ Ok (remote_parts S vid kind a f) ]

-- the octets that a result has, where it has any
abbrev pub texts : Result Parts Reason → Result (List ℕ) Reason
texts (Ok e) = Ok (text e)
texts (Err reason) = Err reason

-- the frame behind a head that was written, where it was
abbrev pub text_behind : {A : Type 0} → List ℕ → Frame → Result A Reason → Result (List ℕ) Reason
text_behind head f (Ok _) = Ok (text (around head [] f))
text_behind head f (Err reason) = Err reason

-- the same in its parts
abbrev pub parts_behind : {A : Type 0} → List ℕ → Frame → Result A Reason → Result Parts Reason
parts_behind head f (Ok _) = Ok (around head [] f)
parts_behind head f (Err reason) = Err reason
