-- An event that isn't a segment's own leaves its bridge.
use Rattle.std.proofs.Common.{◌≡◌, ℕ, ◌==◌, Bool, true, false, cond, ◌&&◌, List, Option, Some, None, Result, Ok, Err, refl, sym, ap, ◌∙◌}
use Rattle.std.specs.Prelude.{is_none}
use Rattle.std.specs.Option.{option_map, option_map_or, unwrap_or}
use Rattle.std.specs.FinMap.{empty, get, insert}
use Rattle.std.proofs.lemmas.Bool.{false≢true}
use Rattle.wire.specs.declared.ether.reason.Refused.{Refused}
use Rattle.filter_db.specs.Table.{Table}
use Rattle.overlay.specs.Flood.{Entries}
use Rattle.overlay.specs.Ports.{Ports, Members, members_at, member_set}
use Rattle.overlay.specs.declared.ports.port.PortRule.{PortRule}
use Rattle.overlay.proofs.PlacesLemmas.{get-insert_at, get-remove_at}
use Rattle.overlay.specs.Overlay.{Segments, segment_at as overlay_segment, segment_of, flooding, with_flood}
use Rattle.overlay.specs.declared.underlay.segment.Segment.{Segment}
use Rattle.overlay.specs.declared.underlay.settings.Underlay.{Underlay}
use Rattle.overlay.specs.declared.settings.change.Change.{Change}
use Rattle.endpoint_core.specs.Settings.{Settings, BridgeSettings, SegmentSettings, segment_at}
use Rattle.endpoint_core.specs.Effect.{Effect, ToFlood, ToBridge, ToLimit, ToMembers, ToPort, Comes, Goes, ToNothing, effect, new_tunnels, new_bridge, applied}
use Rattle.endpoint_core.specs.Change.{is_about, refused, accepted}
use Rattle.endpoint_core.specs.State.{State as Bridges, table_changed, accepted_state}
use Rattle.endpoint_core.specs.StateStep.{table_learned}
use Rattle.endpoint_core.proofs.EffectLemmas.{is_to, effect-other}
use Rattle.endpoint_core.specs.Arrival.{Arrival}
use Rattle.endpoint_core.specs.Arrival.{came_at, came_by}
use Rattle.endpoint_core.specs.Event.{Input, FrameAt, Packet, Asks}
use Rattle.endpoint_core.specs.Run.{settings_after_input, comes_to, is_own}
use Rattle.endpoint_core.specs.Step.{after_came, bridges_after}
use Rattle.mesh_delivery.specs.Bridge.{Bridge}
use Rattle.mesh_delivery.specs.Segment.{bridge_with, bridge_by, bridge_of}
use Rattle.mesh_delivery.proofs.Ageing.{whole}

-- ---- what of the settings the bridge of a segment is made of

record Own : Type 0 where
  pub ports : List PortRule
  pub underlay : Underlay
  pub rules : Option BridgeSettings
  pub segment : Option Segment
  pub members : Option Members

abbrev own : ℕ → Settings → Own
own vid S = record {
  ports = S.ports.ports;
  underlay = S.overlay.underlay;
  rules = S.bridges vid;
  segment = overlay_segment S.overlay vid;
  members = members_at S.ports vid;
}

abbrev with_ports : List PortRule → Ports
with_ports ports = record { ports = ports; segments = empty }

abbrev bridge_from : Table → Own → Option Bridge
bridge_from m o = option_map (bridge_with (with_ports o.ports) o.underlay m) (whole o.rules o.segment o.members)

bridge-same : (vid : ℕ) (S T : Settings) (m : Table) → own vid S ≡ own vid T → bridge_by vid S m ≡ bridge_by vid T m
bridge-same vid S T m h = ap (bridge_from m) h

-- ---- an effect to another segment

abbrev flooded : Entries → Segment → Segment
flooded flood g = record g { flood = flood }

flooding-other : (segments : Segments) (v : ℕ) (flood : Entries) (w : ℕ) → (w == v) ≡ false → get (flooding segments v flood) w ≡ get segments w
flooding-other segments v flood w other = by (get segments v)
  where
    by : (o : Option Segment) → get (option_map_or (λ g. insert segments v (flooded flood g)) o segments) w ≡ get segments w
    by None = refl
    by (Some g) = get-insert_at segments v (flooded flood g) w ∙ ap (λ (b : Bool). cond b (Some (flooded flood g)) (get segments w)) other

own-flooded : (vid v : ℕ) (S : Settings) (flood : SegmentSettings → Entries) (o : Option SegmentSettings) → (vid == v) ≡ false → own vid (option_map_or (λ s. let left : Settings = record S { overlay = with_flood S.overlay v (flood s) } in left) o S) ≡ own vid S
own-flooded vid v S flood None other = refl
own-flooded vid v S flood (Some s) other = λ i.
    let x : Own = own vid S in
    record x { segment = flooding-other S.overlay.segments v (flood s) vid other i }

own-applied : (vid : ℕ) (e : Effect) (S : Settings) → is_to vid e ≡ false → own vid (applied e S) ≡ own vid S
own-applied vid (ToFlood v change) S other = own-flooded vid v S change (segment_at S v) other
own-applied vid (ToBridge v change) S other =
    ap (λ (b : Bool). let x : Own = own vid S in let left : Own = record x { rules = cond b (option_map (λ (r : BridgeSettings). let rule : BridgeSettings = record (change r) { limit = r.limit } in rule) (S.bridges vid)) (S.bridges vid) } in left) other
own-applied vid (ToLimit v limit) S other =
    ap (λ (b : Bool). let x : Own = own vid S in let left : Own = record x { rules = cond b (option_map (λ (r : BridgeSettings). let rule : BridgeSettings = record r { limit = limit } in rule) (S.bridges vid)) (S.bridges vid) } in left) other
own-applied vid (ToMembers v port egress) S other = λ i.
    let x : Own = own vid S in
    let left : Members = member_set (unwrap_or (members_at S.ports v) empty) port egress in
    record x { members = (get-insert_at S.ports.segments v left vid ∙ ap (λ (b : Bool). cond b (Some left) (get S.ports.segments vid)) other) i }
own-applied vid (ToPort port up) S other = absurd (false≢true (sym other))
own-applied vid (Comes new) S other = λ i.
    let x : Own = own vid S in
    record x {
      rules = ap (λ (b : Bool). cond b (Some (new_bridge new)) (S.bridges vid)) other i;
      segment = (get-insert_at S.overlay.segments new.vid (segment_of (new_tunnels new)) vid ∙ ap (λ (b : Bool). cond b (Some (segment_of (new_tunnels new))) (get S.overlay.segments vid)) other) i;
      members = (get-insert_at S.ports.segments new.vid empty vid ∙ ap (λ (b : Bool). cond b (Some empty) (get S.ports.segments vid)) other) i;
    }
own-applied vid (Goes v) S other = λ i.
    let x : Own = own vid S in
    record x {
      rules = ap (λ (b : Bool). cond b None (S.bridges vid)) other i;
      segment = (get-remove_at S.overlay.segments v vid ∙ ap (λ (b : Bool). cond b None (get S.overlay.segments vid)) other) i;
      members = (get-remove_at S.ports.segments v vid ∙ ap (λ (b : Bool). cond b None (get S.ports.segments vid)) other) i;
    }
own-applied vid ToNothing S other = refl

bridge-accepted : (vid : ℕ) (c : Change) (S : Settings) (m : Table) → is_about vid c ≡ false → bridge_by vid (accepted S c) m ≡ bridge_by vid S m
bridge-accepted vid c S m other = bridge-same vid (accepted S c) S m (own-applied vid (effect c) S (effect-other vid c other))

-- ---- an event that isn't its own: in the settings

pub bridge-kept : (vid : ℕ) (S : Settings) (i : Input) (m : Table) → is_own vid S i ≡ false → bridge_by vid (settings_after_input S i) m ≡ bridge_by vid S m
bridge-kept vid S (FrameAt port original b) m other = refl
bridge-kept vid S (Packet original b) m other = refl
bridge-kept vid S (Asks c) m other = by (is_none (refused S c)) other
  where
    by : (b : Bool) → b && is_about vid c ≡ false → bridge_by vid (cond b (accepted S c) S) m ≡ bridge_by vid S m
    by true h = bridge-accepted vid c S m h
    by false h = refl

-- ---- and in a state

came-kept : (t vid : ℕ) (B : Bridges) (r : Result Arrival Refused) → comes_to vid r ≡ false → bridge_of vid (after_came t B r) ≡ bridge_of vid B
came-kept t vid B (Ok x) other = ap (λ (b : Bool). bridge_by vid B.settings (cond b (table_learned t x.from x.frame (segment_at B.settings vid) (B.tables vid)) (B.tables vid))) other
came-kept t vid B (Err refused) other = refl

table-kept : (t : ℕ) (c : Change) (o : Option SegmentSettings) (vid : ℕ) (m : Table) → is_about vid c ≡ false → table_changed t c o vid m ≡ m
table-kept t c None vid m other = rw other refl
table-kept t c (Some s) vid m other = rw other refl

pub state-kept : (t vid : ℕ) (B : Bridges) (i : Input) → is_own vid B.settings i ≡ false → bridge_of vid (bridges_after t B i) ≡ bridge_of vid B
state-kept t vid B (FrameAt port original b) other = came-kept t vid B (came_at B.settings.ports B.settings.overlay port original b) other
state-kept t vid B (Packet original b) other = came-kept t vid B (came_by B.settings.overlay original b) other
state-kept t vid B (Asks c) other = by (is_none (refused B.settings c)) other
  where
    by : (b : Bool) → b && is_about vid c ≡ false → bridge_of vid (cond b (accepted_state t c B) B) ≡ bridge_of vid B
    by true h = ap (bridge_by vid (accepted B.settings c)) (table-kept t c (segment_at B.settings vid) vid (B.tables vid) h) ∙ bridge-accepted vid c B.settings (B.tables vid) h
    by false h = refl
