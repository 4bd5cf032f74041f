-- What is sent in a segment is made of what all segments go by, of its own, and of the next hop to that remote.
use Rattle.std.proofs.Common.{◌≡◌, ℕ, ◌&&◌, nat_lt, Bool, true, false, cond, List, [], ◌∷◌, map, Option, Some, None, Result, Ok, Err, refl, sym, ap, ◌∙◌}
use Rattle.std.specs.List.{AllByRecursion}
use Rattle.std.specs.Option.{option_map_or, option_and_then}
use Rattle.std.specs.FinMap.{get}
use Rattle.wire.specs.First.{first}
use Rattle.wire.specs.Frame.{Frame, size}
use Rattle.wire.specs.Tag.{begins_tag}
use Rattle.wire.specs.declared.ether.reason.Reason.{Reason}
use Rattle.wire.specs.declared.ether.reason.Reason.TheVariants.{TooBig, InnerTagOut}
use Rattle.wire.specs.declared.ip_udp.addr.Addr.{Addr}
use Rattle.wire.specs.declared.ip_udp.addr.Addr.TheVariants.{V4, V6}
use Rattle.wire.specs.declared.ip_udp.addr.Tunnel.{Tunnel}
use Rattle.wire.specs.declared.ip_udp.addr.Tunnel.TheVariants.{Vxlan, Geneve}
use Rattle.overlay.specs.Flood.{own_of}
use Rattle.overlay.specs.Ports.{Members}
use Rattle.overlay.specs.UnderlaySettings.{own, port_of, hop_to}
use Rattle.overlay.specs.Overlay.{Overlay, segment_at, tunnel_of, drops_tags}
use Rattle.overlay.specs.declared.underlay.segment.Segment.{Segment}
use Rattle.overlay.specs.declared.underlay.settings.Underlay.{Underlay}
use Rattle.filter_db.specs.declared.place.Place.{Place}
use Rattle.filter_db.specs.declared.place.Place.TheVariants.{Local, Remote}
use Rattle.encapsulate.specs.Emission.{local_text}
use Rattle.encapsulate.specs.Flow.{source_port}
use Rattle.encapsulate.specs.Packet.{tunnelled, packet4, packet6}
use Rattle.encapsulate.specs.Remote.{largest, sending}
use Rattle.endpoint_core.specs.Arrival.{emitted}
use Rattle.endpoint_core.specs.Decision.{Sent}
use Rattle.endpoint_core.specs.Settings.{Settings}
use Rattle.endpoint_core.specs.Step.{sent_at}
use Rattle.tenants_apart.specs.Own.{Needs, Part, common, part_of, is_reached}

-- ---- at one place

-- a packet by the MAC address to send to
abbrev packet_to : List ℕ → Underlay → List ℕ → Addr → ℕ → ℕ → List ℕ → List ℕ
packet_to hop U src (V4 dst) sport dport d = packet4 hop U.mac U.ttl U.sum4 src dst sport dport d
packet_to hop U src (V6 dst) sport dport d = packet6 hop U.mac U.ttl U.sum6 src dst sport dport d

abbrev sending_to : Tunnel → Addr → Frame → List ℕ → Underlay → Option Segment → Result (List ℕ) Reason
sending_to kind a f hop U segment =
    elim (first ((TooBig, nat_lt (largest U a) (size f)) ∷ (InnerTagOut, begins_tag f.body && option_map_or drops_tags segment false) ∷ [])) [
      | Some reason ↦ Err reason
      | None ↦ Ok (elim (option_and_then (λ g. tunnel_of g kind) segment) [
        | Some tunnel ↦ option_map_or (λ src. packet_to hop U src a (source_port f) (port_of U kind) (tunnelled kind tunnel.vni f)) (own_of (own U) a) []
        | None ↦ []
      ])
    ]

sending-to : (S : Overlay) (vid : ℕ) (kind : Tunnel) (a : Addr) (f : Frame) → sending S vid kind a f ≡ sending_to kind a f (hop_to S.underlay a) (common S.underlay) (segment_at S vid)
sending-to S vid kind (V4 dst) f = port-case kind
  where
    port-case : (k : Tunnel) → sending S vid k (V4 dst) f ≡ sending_to k (V4 dst) f (hop_to S.underlay (V4 dst)) (common S.underlay) (segment_at S vid)
    port-case Vxlan = refl
    port-case Geneve = refl
sending-to S vid kind (V6 dst) f = port-case kind
  where
    port-case : (k : Tunnel) → sending S vid k (V6 dst) f ≡ sending_to k (V6 dst) f (hop_to S.underlay (V6 dst)) (common S.underlay) (segment_at S vid)
    port-case Vxlan = refl
    port-case Geneve = refl

abbrev local_by : ℕ → Frame → ℕ → Option Members → List ℕ
local_by vid f port members = option_map_or (λ egress. local_text vid egress f) (option_and_then (λ m. get m port) members) []

-- what is sent at a place that it needs
emitted-needed : (vid : ℕ) (needs : Needs) (S T : Settings) → part_of vid needs S ≡ part_of vid needs T → (f : Frame) (place : Place) → is_reached needs place ≡ true → emitted S.ports S.overlay vid f place ≡ emitted T.ports T.overlay vid f place
unfolding emitted
emitted-needed vid needs S T h f (Local port) reached = ap (λ (x : Part). Ok (local_by vid f port x.members)) h
emitted-needed vid needs S T h f (Remote kind a) reached =
    sending-to S.overlay vid kind a f
    ∙ ap (λ (b : Bool). sending_to kind a f (cond b (hop_to S.overlay.underlay a) []) (common S.overlay.underlay) (segment_at S.overlay vid)) (sym reached)
    ∙ ap (λ (x : Part). sending_to kind a f (x.shared.hops a) x.shared.underlay x.tunnels) h
    ∙ ap (λ (b : Bool). sending_to kind a f (cond b (hop_to T.overlay.underlay a) []) (common T.overlay.underlay) (segment_at T.overlay vid)) reached
    ∙ sym (sending-to T.overlay vid kind a f)

-- ---- at all places

pub sents-needed : (vid : ℕ) (needs : Needs) (S T : Settings) → part_of vid needs S ≡ part_of vid needs T → (f : Frame) (places : List Place)
    → AllByRecursion (λ (o : Sent). is_reached needs o.place ≡ true) (map (sent_at S vid f) places) → map (sent_at S vid f) places ≡ map (sent_at T vid f) places
sents-needed vid needs S T h f [] reached = refl
sents-needed vid needs S T h f (place ∷ places) reached =
    let here = emitted-needed vid needs S T h f place reached.0 in
    let rest = sents-needed vid needs S T h f places reached.1 in
    λ i. (let sent : Sent = record { place = place; sent = here i } in sent) ∷ rest i
