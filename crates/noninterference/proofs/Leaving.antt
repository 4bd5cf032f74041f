-- What is sent in a segment is made of what that segment sees.
use Rattle.std.proofs.Common.{◌≡◌, ℕ, ◌&&◌, nat_lt, false, List, [], ◌∷◌, Option, Some, None, Result, Ok, Err, refl, ap}
use Rattle.std.specs.Option.{option_map_or, option_and_then}
use Rattle.std.specs.FinMap.{get}
use Rattle.wire.specs.First.{first}
use Rattle.wire.specs.Frame.{Frame, size}
use Rattle.wire.specs.Tag.{begins_tag}
use Rattle.wire.specs.declared.ether.reason.Reason.{Reason}
use Rattle.wire.specs.declared.ether.reason.Reason.TheVariants.{TooBig, InnerTagOut}
use Rattle.wire.specs.declared.ip_udp.addr.Addr.{Addr}
use Rattle.wire.specs.declared.ip_udp.addr.Tunnel.{Tunnel}
use Rattle.overlay.specs.Flood.{own_of}
use Rattle.overlay.specs.Ports.{Ports, Members, members_at}
use Rattle.overlay.specs.UnderlaySettings.{own}
use Rattle.overlay.specs.Overlay.{Overlay, segment_at, tunnel_of, drops_tags}
use Rattle.overlay.specs.declared.underlay.segment.Segment.{Segment}
use Rattle.overlay.specs.declared.underlay.settings.Underlay.{Underlay}
use Rattle.filter_db.specs.declared.place.Place.{Place}
use Rattle.filter_db.specs.declared.place.Place.TheVariants.{Local, Remote}
use Rattle.encapsulate.specs.Emission.{local_text}
use Rattle.encapsulate.specs.Remote.{largest, packet_from, sending}
use Rattle.endpoint_core.specs.Arrival.{emitted}

-- at a local port
abbrev local_by : ℕ → Frame → ℕ → Option Members → List ℕ
local_by vid f port members = option_map_or (λ egress. local_text vid egress f) (option_and_then (λ m. get m port) members) []

-- to a remote, by the underlay and the segment's own
abbrev sending_by : Tunnel → Addr → Frame → Underlay → Option Segment → Result (List ℕ) Reason
sending_by kind a f U segment =
    elim (first ((TooBig, nat_lt (largest U a) (size f)) ∷ (InnerTagOut, begins_tag f.body && option_map_or drops_tags segment false) ∷ [])) [
      | Some reason ↦ Err reason
      | None ↦ Ok (elim (option_and_then (λ g. tunnel_of g kind) segment) [
        | Some tunnel ↦ option_map_or (λ src. packet_from U kind tunnel.vni src a f) (own_of (own U) a) []
        | None ↦ []
      ])
    ]

sending-is : (S : Overlay) (vid : ℕ) (kind : Tunnel) (a : Addr) (f : Frame) → sending S vid kind a f ≡ sending_by kind a f S.underlay (segment_at S vid)
sending-is S vid kind a f = refl

pub emitted-same : (vid : ℕ) (P Q : Ports) (S T : Overlay) → members_at P vid ≡ members_at Q vid → S.underlay ≡ T.underlay → segment_at S vid ≡ segment_at T vid → (f : Frame) (place : Place) → emitted P S vid f place ≡ emitted Q T vid f place
unfolding emitted
emitted-same vid P Q S T members underlay here f (Local port) = ap (λ (m : Option Members). Ok (local_by vid f port m)) members
emitted-same vid P Q S T members underlay here f (Remote kind a) = λ i. sending_by kind a f (underlay i) (here i)
