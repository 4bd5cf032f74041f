-- A frame at the bridge of a segment.
use Rattle.std.proofs.Common.{◌≡◌, ℕ, zero, suc, ◌==◌, leb, not, inl, inr, arith, Bool, true, false, cond, List, [], ◌∷◌, ◌++◌, length, map, slice_index, Option, Some, None, Result, Ok, Err, IfOk, IsTrue, refl, sym, ap, ◌∙◌, subst}
use Rattle.std.specs.Option.{unwrap_or}
use Rattle.std.specs.List.{list_all, filter, range_with_len}
use Rattle.std.specs.FinMap.{empty, get}
use Rattle.std.proofs.Math.Path.{fun_ext}
use Rattle.std.proofs.lemmas.Bool.{eqb-true, and_parts, and_from, cond_both, cases_lt, le-leb, false≢true}
use Rattle.std.proofs.lemmas.List.{get_or_past, length-map}
use Rattle.std.specs.Prelude.{is_some}
use Rattle.std.specs.Option.{option_and_then}
use Rattle.std.proofs.lemmas.List.Folds.{list_all-append}
use Rattle.std.proofs.lemmas.Option.{same_Some}
use Rattle.wire.specs.Address.{is_group}
use Rattle.wire.specs.Frame.{Frame}
use Rattle.wire.specs.declared.ether.reason.Reason.{Reason}
use Rattle.wire.specs.declared.ether.reason.Reason.TheVariants.{SamePlace, Horizon, Unreachable}
use Rattle.wire.specs.declared.ip_udp.addr.Tunnel.TheVariants.{Vxlan, Geneve}
use Rattle.overlay.specs.declared.flood.remote.Remote.{Remote as Target}
use Rattle.filter_db.specs.declared.place.Place.{Place}
use Rattle.filter_db.specs.declared.place.Place.TheVariants.{Local, Remote}
use Rattle.filter_db.specs.Place.{same_place}
use Rattle.filter_db.specs.Table.{Table, stands}
use Rattle.filter_db.specs.Segment.{Segments, aged, aged_all, adjusted, learn_in}
use Rattle.overlay.specs.Ports.{Ports, Members, members_at, is_port, egress_at}
use Rattle.overlay.specs.Overlay.{Overlay, segment_at as under_at}
use Rattle.overlay.specs.declared.underlay.segment.Segment.{Segment as Tunneled}
use Rattle.tunnel_learning.specs.Bridge.{Config, place_of, serves, is_up_at, is_local_outlet, is_remote_outlet, local_places, remote_places, in_one_group, is_shut, toward, to_place, or_no_outlet, outlets}
use Rattle.endpoint_core.specs.Learning.{learns}
use Rattle.endpoint_core.specs.Settings.{Settings, BridgeSettings, SegmentSettings, joined, segment_at}
use Rattle.endpoint_core.specs.Sound.{reaches, is_reached, is_reached_if, AreReached, AreSound}
use Rattle.endpoint_core.specs.State.{State, bridge_of, bridges_of, settings_by, tables_at}
use Rattle.endpoint_core.specs.StateStep.{can_leave, group_in, config_of, table_learned, after_frame}
use Rattle.endpoint_core.proofs.AfterLemmas.{bridges-adjusted, tables-adjusted}
use Rattle.endpoint_core.proofs.SoundLemmas.{sound-adjusted, reached-learn}
use Rattle.endpoint_core.proofs.StandsLemmas.{Stands}

-- ---- the configuration

-- what a bridge is told of its segment
abbrev told : Ports → Members → Bool → Tunneled → List ℕ → Config
told ports members learning segment groups = record {
  up = map (λ port. port.up) ports.ports;
  members = members;
  learning = learning;
  flood = segment.flood;
  groups = (slice_index groups 0, slice_index groups 1);
}

pub config-told : (ports : Ports) (overlay : Overlay) (learning : List Bool) (segments : Segments) (vid : ℕ) (it : Stands ports overlay learning segments vid) (on : Bool) (segment : Tunneled) (groups : List ℕ) → on ≡ learns learning vid → under_at overlay vid ≡ Some segment → groups ≡ group_in Vxlan segment.tunnels ∷ group_in Geneve segment.tunnels ∷ [] → told ports (unwrap_or (members_at ports vid) empty) on segment groups ≡ config_of ports (joined (bridge_of (learns learning vid) it.table) it.tunneled it.members)
config-told ports overlay learning segments vid it on segment groups is_on is_segment is_groups =
    let same : segment ≡ it.tunneled = same_Some segment it.tunneled (sym is_segment ∙ it.has_tunnels) in
    ap (λ (o : Option Members). told ports (unwrap_or o empty) on segment groups) it.has_members
    ∙ ap (λ (b : Bool). told ports it.members b segment groups) is_on
    ∙ ap (λ (g : List ℕ). told ports it.members (learns learning vid) segment g) is_groups
    ∙ ap (λ (g : Tunneled). told ports it.members (learns learning vid) g (group_in Vxlan g.tunnels ∷ group_in Geneve g.tunnels ∷ [])) same

-- ---- what is learned

pub tables-learned : (t vid : ℕ) (from : Place) (f : Frame) (ports : Ports) (overlay : Overlay) (learning : List Bool) (segments new : Segments) (it : Stands ports overlay learning segments vid) (b : Bool) → learns learning vid ≡ b → new ≡ cond b (adjusted vid (learn_in t from f.src) (aged_all t segments)) segments → (b ≡ true → aged_all t new ≡ new) → tables_at t new ≡ (after_frame t vid from f (record { settings = settings_by ports overlay learning 0 segments; tables = tables_at t segments })).tables
tables-learned t vid from f ports overlay learning segments new it true on is settled =
    let own : SegmentSettings = joined (bridge_of (learns learning vid) it.table) it.tunneled it.members in
    tables-adjusted t vid (learn_in t from f.src) (λ w m. table_learned t from f (segment_at (settings_by ports overlay learning 0 segments) w) m) it.table segments new it.has_table is (settled refl)
    (sym (ap (λ (o : Option SegmentSettings). table_learned t from f o (aged t it.table).entries) it.settings
    ∙ ap (λ (c : Bool). cond c ((learn_in t from f.src (aged t it.table)).entries) (aged t it.table).entries) on))
tables-learned t vid from f ports overlay learning segments new it false off is settled = ap (tables_at t) is ∙ fun_ext (λ w. by w (w == vid) refl)
  where
    S : Settings
    S = settings_by ports overlay learning 0 segments

    here : table_learned t from f (segment_at (settings_by ports overlay learning 0 segments) vid) (tables_at t segments vid) ≡ tables_at t segments vid
    here =
        ap (λ (o : Option SegmentSettings). table_learned t from f o (tables_at t segments vid)) it.settings
        ∙ ap (λ (c : Bool). cond c (table_learned t from f (Some (joined (bridge_of true it.table) it.tunneled it.members)) (tables_at t segments vid)) (tables_at t segments vid)) off

    by : (w : ℕ) (c : Bool) → (w == vid) ≡ c → tables_at t segments w ≡ cond c (table_learned t from f (segment_at (settings_by ports overlay learning 0 segments) w) (tables_at t segments w)) (tables_at t segments w)
    by w true own = subst (λ (v : ℕ). tables_at t segments v ≡ table_learned t from f (segment_at (settings_by ports overlay learning 0 segments) v) (tables_at t segments v)) (sym (eqb-true w vid own)) (sym here)
    by w false other = refl

pub bridges-learned : (t vid : ℕ) (from : Place) (f : Frame) (learning : List Bool) (segments new : Segments) (b : Bool) → new ≡ cond b (adjusted vid (learn_in t from f.src) (aged_all t segments)) segments → bridges_of learning new ≡ bridges_of learning segments
bridges-learned t vid from f learning segments new true is = bridges-adjusted learning t vid (learn_in t from f.src) segments new (λ b s. refl) is
bridges-learned t vid from f learning segments new false is = ap (bridges_of learning) is

pub after-learned : (t vid : ℕ) (from : Place) (f : Frame) (ports : Ports) (overlay : Overlay) (learning : List Bool) (pool pool' : ℕ) (segments new : Segments) (it : Stands ports overlay learning segments vid) (b : Bool) → learns learning vid ≡ b → new ≡ cond b (adjusted vid (learn_in t from f.src) (aged_all t segments)) segments → (b ≡ true → aged_all t new ≡ new) → pool' ≡ pool → ◌≡◌ {A = State} (record { settings = settings_by ports overlay learning pool' new; tables = tables_at t new }) (after_frame t vid from f (record { settings = settings_by ports overlay learning pool segments; tables = tables_at t segments }))
after-learned t vid from f ports overlay learning pool pool' segments new it b on is settled stays =
    ap (λ (n : ℕ). let s : State = record { settings = settings_by ports overlay learning n new; tables = tables_at t new } in s) stays
    ∙ ap (λ (x : ℕ → Option BridgeSettings). let s : State = record { settings = record { ports = ports; overlay = overlay; bridges = x; pool = pool }; tables = tables_at t new } in s) (bridges-learned t vid from f learning segments new b is)
    ∙ ap (λ (x : ℕ → Table). let s : State = record { settings = settings_by ports overlay learning pool segments; tables = x } in s) (tables-learned t vid from f ports overlay learning segments new it b on is settled)

pub sound-learned : (t vid : ℕ) (from : Place) (f : Frame) (ports : Ports) (S : Overlay) (segments new : Segments) (b : Bool) → is_reached S vid from ≡ true → AreSound ports S segments → new ≡ cond b (adjusted vid (learn_in t from f.src) (aged_all t segments)) segments → AreSound ports S new
sound-learned t vid from f ports S segments new true reached sound is = sound-adjusted t vid (learn_in t from f.src) ports S segments new sound (λ s h. reached-learn S vid s.limit t from f.src s.entries reached h) is
sound-learned t vid from f ports S segments new false reached sound is = subst (λ (n : Segments). AreSound ports S n) (sym is) sound

-- ---- where it goes

negated : (b : Bool) → not b ≡ false → b ≡ true
negated true h = refl
negated false h = absurd (cc)

twice : (b : Bool) → not (not b) ≡ true → b ≡ true
twice true h = refl
twice false h = absurd (cc)

-- a port that is up is there
up-there : (up : List Bool) (port : ℕ) → is_up_at up port ≡ true → is_port (length up) port ≡ true
up-there up zero h = absurd (false≢true h)
up-there up (suc k) h = elim (cases_lt k (length up)) [
  | inl lt ↦ and_from (leb 1 (suc k)) (leb (suc k) (length up)) (le-leb 1 (suc k) (omega arith)) (le-leb (suc k) (length up) (omega arith))
  | inr past ↦ absurd (false≢true (sym (get_or_past up k false past) ∙ h))
]

module _ (S : Settings) (vid : ℕ) (s : SegmentSettings) (is : members_at S.ports vid ≡ Some s.members) where
  abbrev Leaves : List Place → Type 0
  Leaves places = IsTrue (list_all (can_leave S vid) places)

  served : (port : ℕ) → serves (config_of S.ports s) port ≡ true → can_leave S vid (Local port) ≡ true
  served port h =
      let both = and_parts (is_up_at (map (λ p. p.up) S.ports.ports) port) (is_some (get s.members port)) h in
      and_from (is_port (length S.ports.ports) port) (is_some (egress_at S.ports vid port))
      (ap (λ (n : ℕ). is_port n port) (sym (length-map S.ports.ports (λ p. p.up))) ∙ up-there (map (λ p. p.up) S.ports.ports) port both.0)
      (ap (λ (o : Option Members). is_some (option_and_then (λ m. get m port) o)) is ∙ both.1)

  open_port : (to : Place) → is_shut (config_of S.ports s) to ≡ false → is_reached S.overlay vid to ≡ true → can_leave S vid to ≡ true
  open_port (Local port) h reached = served port (negated (serves (config_of S.ports s) port) h)
  open_port (Remote kind addr) h reached = reached

  locals : (from : Place) (numbers : List ℕ) → list_all (can_leave S vid) (filter (is_local_outlet (config_of S.ports s) from) (map Local numbers)) ≡ true
  locals from [] = refl
  locals from (n ∷ numbers) = by (is_local_outlet (config_of S.ports s) from (Local n)) refl (locals from numbers)
    where
      by : (b : Bool) → is_local_outlet (config_of S.ports s) from (Local n) ≡ b → list_all (can_leave S vid) (filter (is_local_outlet (config_of S.ports s) from) (map Local numbers)) ≡ true → list_all (can_leave S vid) (cond b (Local n ∷ filter (is_local_outlet (config_of S.ports s) from) (map Local numbers)) (filter (is_local_outlet (config_of S.ports s) from) (map Local numbers))) ≡ true
      by true outlet rest =
          let both = and_parts (not (is_shut (config_of S.ports s) (Local n))) (not (same_place (Local n) from)) outlet in
          and_from (can_leave S vid (Local n)) (list_all (can_leave S vid) (filter (is_local_outlet (config_of S.ports s) from) (map Local numbers))) (served n (twice (serves (config_of S.ports s) n) both.0)) rest
      by false other rest = rest

  remotes : (q : Place → Bool) (flood : List Target) → list_all (λ r. reaches S.overlay vid r.tunnel r.addr) flood ≡ true → list_all (can_leave S vid) (filter q (map place_of flood)) ≡ true
  remotes q [] h = refl
  remotes q (r ∷ flood) h =
      let both = and_parts (reaches S.overlay vid r.tunnel r.addr) (list_all (λ x. reaches S.overlay vid x.tunnel x.addr) flood) h in
      let rest = remotes q flood both.1 in
      elim (q (place_of r)) as (λ b. list_all (can_leave S vid) (cond b (place_of r ∷ filter q (map place_of flood)) (filter q (map place_of flood))) ≡ true) [
        | true ↦ and_from (reaches S.overlay vid r.tunnel r.addr) (list_all (can_leave S vid) (filter q (map place_of flood))) both.0 rest
        | false ↦ rest
      ]

  some_outlets : (places : List Place) → list_all (can_leave S vid) places ≡ true → IfOk (or_no_outlet places) Leaves
  some_outlets [] h = tt
  some_outlets (to ∷ places) h = h

  known : (from to : Place) → is_reached S.overlay vid to ≡ true → IfOk (to_place (config_of S.ports s) from to) Leaves
  known from to h =
      let P : Result (List Place) Reason → Type 0 = λ r. IfOk r Leaves in
      cond_both (same_place to from) (Err SamePlace) _ P (λ e. tt)
      (λ e. cond_both (in_one_group (config_of S.ports s) from to) (Err Horizon) _ P (λ e'. tt)
      (λ e'. cond_both (is_shut (config_of S.ports s) to) (Err Unreachable) (Ok (to ∷ [])) P (λ e''. tt) (λ e''. and_from (can_leave S vid to) true (open_port to e'' h) refl)))

  aimed : (from : Place) (to : Option Place) → list_all (λ r. reaches S.overlay vid r.tunnel r.addr) s.flood ≡ true → is_reached_if S.overlay vid to ≡ true → IfOk (toward (config_of S.ports s) from to) Leaves
  aimed from None flood h =
      let ups = length (map (λ p. p.up) S.ports.ports) in
      some_outlets (local_places (config_of S.ports s) from ++ remote_places (config_of S.ports s) from)
      (list_all-append (can_leave S vid) (local_places (config_of S.ports s) from) (remote_places (config_of S.ports s) from)
      ∙ and_from (list_all (can_leave S vid) (local_places (config_of S.ports s) from)) (list_all (can_leave S vid) (remote_places (config_of S.ports s) from))
      (locals from (range_with_len 1 ups))
      (remotes (is_remote_outlet (config_of S.ports s) from) s.flood flood))
  aimed from (Some to) flood h = known from to h

  either : (b : Bool) (o : Option Place) → is_reached_if S.overlay vid o ≡ true → is_reached_if S.overlay vid (cond b None o) ≡ true
  either true o h = refl
  either false o h = h

  -- a frame goes to places where it can leave
  pub outlets-leave : (from : Place) (f : Frame) (m : Table) → list_all (λ r. reaches S.overlay vid r.tunnel r.addr) s.flood ≡ true → AreReached S.overlay vid m → IfOk (outlets (config_of S.ports s) from f m) Leaves
  outlets-leave from f m flood h = aimed from (cond (is_group f.dst) None (stands f.dst m)) flood (either (is_group f.dst) (stands f.dst m) (h f.dst))
