-- What is decided of a frame in a segment, and what it leaves there, is the step of that segment's bridge.
use Rattle.std.proofs.Common.{◌≡◌, ℕ, ◌-◌, ◌==◌, ◌&&◌, nat_lt, Bool, false, cond, List, [], ◌∷◌, map, length, Option, Some, None, Result, Ok, Err, refl, ap, ◌∙◌}
use Rattle.std.specs.Option.{option_map, option_map_or, option_and_then}
use Rattle.std.specs.FinMap.{get}
use Rattle.std.proofs.lemmas.Bool.{eq-eqb}
use Rattle.wire.specs.First.{first}
use Rattle.wire.specs.Frame.{Frame, size}
use Rattle.wire.specs.Tag.{begins_tag}
use Rattle.wire.specs.declared.ether.reason.Reason.{Reason}
use Rattle.wire.specs.declared.ether.reason.Reason.TheVariants.{TooBig, InnerTagOut}
use Rattle.wire.specs.declared.ether.reason.Refused.{Refused}
use Rattle.wire.specs.declared.ip_udp.addr.Addr.{Addr}
use Rattle.wire.specs.declared.ip_udp.addr.Addr.TheVariants.{V4, V6}
use Rattle.wire.specs.declared.ip_udp.addr.Tunnel.{Tunnel}
use Rattle.overlay.specs.Flood.{own_of}
use Rattle.filter_db.specs.declared.place.Place.{Place}
use Rattle.filter_db.specs.declared.place.Place.TheVariants.{Local, Remote}
use Rattle.filter_db.specs.Table.{Table, nanoseconds, live}
use Rattle.overlay.specs.Ports.{Members, members_at}
use Rattle.overlay.specs.Overlay.{tunnel_of, drops_tags, segment_at as overlay_segment}
use Rattle.overlay.specs.UnderlaySettings.{own}
use Rattle.overlay.specs.declared.underlay.segment.Segment.{Segment}
use Rattle.encapsulate.specs.Emission.{local_text}
use Rattle.encapsulate.specs.Remote.{packet_from}
use Rattle.tunnel_learning.specs.Bridge.{outlets}
use Rattle.endpoint_core.specs.Settings.{Settings, BridgeSettings, SegmentSettings, joined, segment_at}
use Rattle.endpoint_core.specs.State.{State as Bridges, live_in, aged}
use Rattle.endpoint_core.specs.StateStep.{config_of, table_learned, verdict_in, verdict}
use Rattle.endpoint_core.specs.Arrival.{Arrival}
use Rattle.endpoint_core.specs.Arrival.{came_at, came_by, emitted}
use Rattle.endpoint_core.specs.Decision.{Sent, forwarded}
use Rattle.endpoint_core.specs.Event.{Input, FrameAt, Packet, Asks}
use Rattle.endpoint_core.specs.Step.{Decided, sent_at, by_verdict, decided_in, decided, answer_by}
use Rattle.mesh_delivery.specs.Bridge.{outlet_at, outlets_at}
use Rattle.mesh_delivery.specs.Segment.{bridge_with, bridge_by, bridge_of, IsBrought, step_in, sent_of, decision_of}
use Rattle.mesh_delivery.proofs.Ageing.{whole}

-- ---- what is sent at an outlet

module _ (S : Settings) (vid : ℕ) (f : Frame) (rules : BridgeSettings) (g : Segment) (p : Members) (tunnels : overlay_segment S.overlay vid ≡ Some g) (members : members_at S.ports vid ≡ Some p) where
  abbrev own_settings : SegmentSettings
  own_settings = joined rules g p

  -- to a remote, by the largest frame and the segment's own
  abbrev sent_by : Tunnel → Addr → ℕ → Option Segment → Sent
  sent_by kind a most o = record {
    place = Remote kind a;
    sent = elim (first ((TooBig, nat_lt most (size f)) ∷ (InnerTagOut, begins_tag f.body && option_map_or drops_tags o false) ∷ [])) [
      | Some reason ↦ Err reason
      | None ↦ Ok (elim (option_and_then (λ h. tunnel_of h kind) o) [
        | Some tunnel ↦ option_map_or (λ src. packet_from S.overlay.underlay kind tunnel.vni src a f) (own_of (own S.overlay.underlay) a) []
        | None ↦ []
      ])
    ];
  }

  -- at a local port, by the members
  abbrev sent_local : ℕ → Option Members → Sent
  sent_local port o = record { place = Local port; sent = Ok (option_map_or (λ egress. local_text vid egress f) (option_and_then (λ m. get m port) o) []) }

  sent-outlet : (m : Table) (place : Place) → sent_at S vid f place ≡ sent_of S.overlay.underlay (Some own_settings) vid f (outlet_at (bridge_with S.ports S.overlay.underlay m own_settings) f place)
  unfolding emitted
  sent-outlet m (Local port) = ap (sent_local port) members
  sent-outlet m (Remote kind (V4 a)) = ap (sent_by kind (V4 a) (S.overlay.underlay.mtu - 36)) tunnels
  sent-outlet m (Remote kind (V6 a)) = ap (sent_by kind (V6 a) (S.overlay.underlay.mtu - 56)) tunnels

  sent-outlets : (m : Table) (places : List Place) → map (sent_at S vid f) places ≡ map (sent_of S.overlay.underlay (Some own_settings) vid f) (map (outlet_at (bridge_with S.ports S.overlay.underlay m own_settings) f) places)
  sent-outlets m [] = refl
  sent-outlets m (place ∷ places) = λ i. sent-outlet m place i ∷ sent-outlets m places i

decided-outlets : (S : Settings) (x : Arrival) (rules : BridgeSettings) (g : Segment) (p : Members) → overlay_segment S.overlay x.vid ≡ Some g → members_at S.ports x.vid ≡ Some p → (m : Table) (r : Result (List Place) Reason) →
    by_verdict S x r ≡ decision_of S.overlay.underlay (Some (joined rules g p)) x (outlets_at (bridge_with S.ports S.overlay.underlay m (joined rules g p)) x.frame r)
decided-outlets S x rules g p tunnels members m (Ok places) = λ i. forwarded x.vid (option_map_or (λ h. length h.tunnels == 2) (tunnels i) false) (sent-outlets S x.vid x.frame rules g p tunnels members m places i)
decided-outlets S x rules g p tunnels members m (Err reason) = refl

-- ---- a frame

decided-by : (S : Settings) (x : Arrival) (t : ℕ) (m : Table) →
    by_verdict S x (verdict_in S.ports (segment_at S x.vid) x.from x.frame (table_learned t x.from x.frame (segment_at S x.vid) (live_in (S.bridges x.vid) t m)))
    ≡ decision_of S.overlay.underlay (segment_at S x.vid) x (step_in (bridge_by x.vid S m) t x.from x.frame).0
decided-by S x t m = by (S.bridges x.vid) (overlay_segment S.overlay x.vid) refl (members_at S.ports x.vid) refl
  where
    by : (rules : Option BridgeSettings) (g : Option Segment) → overlay_segment S.overlay x.vid ≡ g → (p : Option Members) → members_at S.ports x.vid ≡ p →
        by_verdict S x (verdict_in S.ports (whole rules g p) x.from x.frame (table_learned t x.from x.frame (whole rules g p) (live_in rules t m)))
        ≡ decision_of S.overlay.underlay (whole rules g p) x (step_in (option_map (bridge_with S.ports S.overlay.underlay m) (whole rules g p)) t x.from x.frame).0
    by None g tunnels p members = refl
    by (Some rules) None tunnels p members = refl
    by (Some rules) (Some g) tunnels None members = refl
    by (Some rules) (Some g) tunnels (Some p) members =
        let s : SegmentSettings = joined rules g p in
        let table : Table = table_learned t x.from x.frame (Some s) (live (nanoseconds rules.ageing) t m) in
        decided-outlets S x rules g p tunnels members table (outlets (config_of S.ports s) x.from x.frame table)

-- a verdict asks the table of its own segment
verdict-own : (t vid : ℕ) (from : Place) (f : Frame) (B : Bridges) → verdict t vid from f B ≡ verdict_in B.settings.ports (segment_at B.settings vid) from f (table_learned t from f (segment_at B.settings vid) (B.tables vid))
verdict-own t vid from f B =
    ap (λ (c : Bool). verdict_in B.settings.ports (segment_at B.settings vid) from f (cond c (table_learned t from f (segment_at B.settings vid) (B.tables vid)) (B.tables vid))) (eq-eqb vid vid refl)

decided-step : (t : ℕ) (B : Bridges) (x : Arrival) → decided_in t (aged t B) x ≡ decision_of B.settings.overlay.underlay (segment_at B.settings x.vid) x (step_in (bridge_of x.vid B) t x.from x.frame).0
decided-step t B x = ap (by_verdict B.settings x) (verdict-own t x.vid x.from x.frame (aged t B)) ∙ decided-by B.settings x t (B.tables x.vid)

decided-of : (t : ℕ) (B : Bridges) (r : Result Arrival Refused) (x : Arrival) → r ≡ Ok x → Decided (decided t (aged t B) r) ≡ Decided (decision_of B.settings.overlay.underlay (segment_at B.settings x.vid) x (step_in (bridge_of x.vid B) t x.from x.frame).0)
decided-of t B r x is = ap (λ (q : Result Arrival Refused). Decided (decided t (aged t B) q)) is ∙ ap Decided (decided-step t B x)

-- what comes at moment t is answered by the bridge of its segment
pub answered : (t : ℕ) (B : Bridges) (i : Input) (x : Arrival) → IsBrought B.settings i x → answer_by t (aged t B) i ≡ Decided (decision_of B.settings.overlay.underlay (segment_at B.settings x.vid) x (step_in (bridge_of x.vid B) t x.from x.frame).0)
answered t B (FrameAt port original b) x is = decided-of t B (came_at B.settings.ports B.settings.overlay port original b) x is
answered t B (Packet original b) x is = decided-of t B (came_by B.settings.overlay original b) x is
answered t B (Asks c) x is = absurd is
