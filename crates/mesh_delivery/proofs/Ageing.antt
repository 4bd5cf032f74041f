-- What ageing and learning make of the table of a segment they make of its bridge.
use Rattle.std.proofs.Common.{◌≡◌, ℕ, ◌≤◌, Option, Some, None, refl, ap}
use Rattle.std.specs.Option.{option_map, option_and_then}
use Rattle.wire.specs.Frame.{Frame}
use Rattle.filter_db.specs.declared.place.Place.{Place}
use Rattle.filter_db.specs.Table.{Table, nanoseconds}
use Rattle.filter_db.specs.Ageing.{live-live}
use Rattle.overlay.specs.Ports.{Members, members_at}
use Rattle.overlay.specs.Overlay.{segment_at as overlay_segment}
use Rattle.overlay.specs.declared.underlay.segment.Segment.{Segment}
use Rattle.endpoint_core.specs.Settings.{Settings, BridgeSettings, SegmentSettings, joined, segment_at}
use Rattle.endpoint_core.specs.State.{live_in}
use Rattle.endpoint_core.specs.StateStep.{table_learned}
use Rattle.mesh_delivery.specs.Bridge.{Bridge, aged, learned, leaving}
use Rattle.mesh_delivery.specs.Segment.{bridge_with, bridge_by, step_in}

-- the parts of a segment's settings put together, where each is there
abbrev pub whole : Option BridgeSettings → Option Segment → Option Members → Option SegmentSettings
whole rules g members = option_and_then (λ r. option_and_then (λ h. option_map (λ p. joined r h p) members) g) rules

pub bridge-aged : (vid : ℕ) (S : Settings) (t : ℕ) (m : Table) → bridge_by vid S (live_in (S.bridges vid) t m) ≡ option_map (aged t) (bridge_by vid S m)
bridge-aged vid S t m = by (S.bridges vid) (overlay_segment S.overlay vid) (members_at S.ports vid)
  where
    by : (rules : Option BridgeSettings) (g : Option Segment) (members : Option Members) →
        option_map (bridge_with S.ports S.overlay.underlay (live_in rules t m)) (whole rules g members)
        ≡ option_map (aged t) (option_map (bridge_with S.ports S.overlay.underlay m) (whole rules g members))
    by None g members = refl
    by (Some rules) None members = refl
    by (Some rules) (Some g) None = refl
    by (Some rules) (Some g) (Some members) = refl

-- what a frame leaves of a bridge
pub bridge-step : (vid : ℕ) (S : Settings) (t : ℕ) (from : Place) (f : Frame) (m : Table) → bridge_by vid S (table_learned t from f (segment_at S vid) (live_in (S.bridges vid) t m)) ≡ (step_in (bridge_by vid S m) t from f).1
bridge-step vid S t from f m = by (S.bridges vid) (overlay_segment S.overlay vid) (members_at S.ports vid)
  where
    by : (rules : Option BridgeSettings) (g : Option Segment) (members : Option Members) →
        option_map (bridge_with S.ports S.overlay.underlay (table_learned t from f (whole rules g members) (live_in rules t m))) (whole rules g members)
        ≡ (step_in (option_map (bridge_with S.ports S.overlay.underlay m) (whole rules g members)) t from f).1
    by None g members = refl
    by (Some rules) None members = refl
    by (Some rules) (Some g) None = refl
    by (Some rules) (Some g) (Some members) = refl

-- ---- to forget early what is dead changes nothing later

pub aged-aged : (o : Option Bridge) (t u : ℕ) → t ≤ u → option_map (aged u) (option_map (aged t) o) ≡ option_map (aged u) o
aged-aged None t u h = refl
aged-aged (Some b) t u h = ap (λ (m : Table). let left : Bridge = record b { table = m } in Some left) (live-live (nanoseconds b.ageing) t u b.table h)

pub step-aged : (o : Option Bridge) (t u : ℕ) (from : Place) (f : Frame) → t ≤ u → step_in (option_map (aged t) o) u from f ≡ step_in o u from f
step-aged None t u from f h = refl
step-aged (Some b) t u from f h =
    ap (λ (m : Table). let left : Bridge = record b { table = m } in let now : Bridge = learned u from f left in (leaving now from f, Some now)) (live-live (nanoseconds b.ageing) t u b.table h)
