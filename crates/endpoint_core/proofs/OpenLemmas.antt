-- What an endpoint is opened with.
use Rattle.std.proofs.Common.{◌≡◌, ℕ, ◌≤◌, ◌==◌, eqb, Bool, true, false, cond, ◌&&◌, ◌||◌, inl, inr, List, [], ◌∷◌, ◌++◌, length, map, Option, Some, None, find, refl, sym, ap, ◌∙◌, subst}
use Rattle.std.specs.Prelude.{is_some, is_none, IsTrue}
use Rattle.std.specs.List.{list_any, list_all}
use Rattle.std.specs.List as list
use Rattle.std.specs.Option.{option_map, option_map_or, option_and_then, unwrap_or}
use Rattle.std.specs.Ordering.{nat_cmp}
use Rattle.std.specs.FinMap.{empty, get, from_entries, get-empty}
use Rattle.std.proofs.Math.Path.{fun_ext}
use Rattle.std.proofs.lemmas.Bool.{eqb-true, eq-eqb, ne_eqb, cases_eq, false≢true, and_parts, and_from}
use Rattle.std.proofs.lemmas.Option.{none-some, same_Some}
use Rattle.wire.specs.First.{first}
use Rattle.wire.specs.Addr.{same_kind}
use Rattle.overlay.specs.declared.flood.own.Own.{Own}
use Rattle.overlay.specs.declared.flood.remote.Remote.{Remote}
use Rattle.overlay.specs.Flood.{Entries, has_family, add_faults}
use Rattle.filter_db.specs.declared.tables.TableRule.{TableRule}
use Rattle.filter_db.specs.Table.{Table, nanoseconds, is_live, stands}
use Rattle.filter_db.specs.Segment.{Segments, no_segment, aged, new_segment, new_segments}
use Rattle.filter_db.proofs.TableLemmas.{kept-empty, get-none}
use Rattle.overlay.specs.Ports as ports
use Rattle.overlay.specs.declared.ports.member.MemberRule.{MemberRule}
use Rattle.overlay.specs.declared.ports.port.PortRule.{PortRule}
use Rattle.overlay.proofs.PlacesLemmas.{get-insert_at}
use Rattle.overlay.specs.UnderlaySettings.{own}
use Rattle.overlay.specs.Tunnels.{of_kind}
use Rattle.overlay.specs.Overlay as overlay
use Rattle.overlay.specs.declared.underlay.segment.Segment.{Segment as Tunneled}
use Rattle.overlay.specs.declared.underlay.segment.TunnelRule.{TunnelRule}
use Rattle.overlay.specs.declared.underlay.settings.Underlay.{Underlay}
use Rattle.overlay.specs.declared.underlay.tunnels.SegmentTunnel.{SegmentTunnel}
use Rattle.overlay.specs.declared.settings.segment.SegmentRule.{SegmentRule}
use Rattle.overlay.specs.Settings.{Settings as Told, member_rule, table_rule, tunnel_rule}
use Rattle.overlay.specs.Rules.{EachBehind, IsRemote, IsSegment, MeetsRules}
use Rattle.endpoint_core.specs.Learning.{learns, tells_learning}
use Rattle.endpoint_core.specs.Opened.{settings_told, opened}
use Rattle.endpoint_core.specs.Settings.{BridgeSettings}
use Rattle.endpoint_core.specs.Sound.{reaches, is_reached_if, AreReached, AreSound}
use Rattle.endpoint_core.specs.State.{State, bridge_of, settings_by, tables_at}
use Rattle.endpoint_core.proofs.AfterLemmas.{state-same}
use Rattle.endpoint_core.proofs.SoundLemmas.{family-added, sound-same}

-- ---- the VIDs of the segments

turned : (a b : ℕ) → eqb a b ≡ eqb b a
turned a b = elim (cases_eq a b) [
  | inl same ↦ eq-eqb a b same ∙ sym (eq-eqb b a (sym same))
  | inr other ↦ ne_eqb a b other ∙ sym (ne_eqb b a (λ e. other (sym e)))
]

-- one of these is the VID
abbrev is_among : ℕ → List ℕ → Bool
is_among w vids = list_any (λ v. w == v) vids

-- a map made of rules has what a rule is for
get-told : {X Y : Type 0} (key : X → ℕ) (f : X → Y) (rules : List X) (w : ℕ) → is_some (get (from_entries {R = nat_cmp} (map (λ r. (key r, f r)) rules)) w) ≡ is_among w (map key rules)
get-told {Y = Y} key f [] w = ap is_some (get-empty {X = Y} nat_cmp w)
get-told {Y = Y} key f (r ∷ rules) w = ap is_some (get-insert_at (from_entries (map (λ x. (key x, f x)) rules)) (key r) (f r) w) ∙ by (w == key r) ∙ ap (λ (b : Bool). (w == key r) || b) (get-told key f rules w)
  where
    by : (b : Bool) → is_some (cond b (Some (f r)) (get (from_entries {R = nat_cmp} (map (λ x. (key x, f x)) rules)) w)) ≡ (b || is_some (get (from_entries {R = nat_cmp} (map (λ x. (key x, f x)) rules)) w))
    by true = refl
    by false = refl

-- and so have tables
find-told : (rules : List TableRule) (w : ℕ) → is_some (find (λ r. r.vid == w) rules) ≡ is_among w (map (λ r. r.vid) rules)
find-told [] w = refl
find-told (r ∷ rules) w = by (r.vid == w) ∙ ap (λ (b : Bool). (r.vid == w) || b) (find-told rules w) ∙ ap (λ (b : Bool). b || is_among w (map (λ x. x.vid) rules)) (turned r.vid w)
  where
    by : (b : Bool) → is_some (cond b (Some r) (find (λ x. x.vid == w) rules)) ≡ (b || is_some (find (λ x. x.vid == w) rules))
    by true = refl
    by false = refl

some-map : {X Y : Type 0} (f : X → Y) (o : Option X) → is_some (option_map f o) ≡ is_some o
some-map f None = refl
some-map f (Some x) = refl

-- what is told of segments is for their VIDs
same-vids : {X : Type 0} (f : SegmentRule → X) (key : X → ℕ) (same : (s : SegmentRule) → key (f s) ≡ s.vid) (segments : List SegmentRule) → map key (map f segments) ≡ map (λ s. s.vid) segments
same-vids f key same [] = refl
same-vids f key same (s ∷ segments) = ap (λ (n : ℕ). n ∷ map key (map f segments)) (same s) ∙ ap (λ (l : List ℕ). s.vid ∷ l) (same-vids f key same segments)

-- the VIDs of segments are in range
within : (o : Own) (m n : ℕ) (earlier segments : List SegmentRule) (w : ℕ) → EachBehind (IsSegment o m n) earlier segments → is_among w (map (λ s. s.vid) segments) ≡ true → (1 ≤ w) × (w ≤ 4094)
within o m n earlier [] w each h = absurd (false≢true h)
within o m n earlier (s ∷ segments) w each h = by (w == s.vid) refl (within o m n (earlier ++ s ∷ []) segments w each.1) h
  where
    by : (b : Bool) → (w == s.vid) ≡ b → (is_among w (map (λ x. x.vid) segments) ≡ true → (1 ≤ w) × (w ≤ 4094)) → (b || is_among w (map (λ x. x.vid) segments)) ≡ true → (1 ≤ w) × (w ≤ 4094)
    by true same rest h = subst (λ (v : ℕ). (1 ≤ v) × (v ≤ 4094)) (sym (eqb-true w s.vid same)) each.0.vid
    by false other rest h = rest h

-- ---- flood lists

none_is : {A : Type 0} (o : Option A) → IsTrue (is_none o) → o ≡ None
none_is None h = refl
none_is (Some x) h = absurd (false≢true h)

any-found : {A : Type 0} (p : A → Bool) (xs : List A) → IsTrue (list_any p xs) → is_some (list.find p xs) ≡ true
any-found p [] h = absurd (false≢true h)
any-found p (x ∷ xs) h = by (p x) (any-found p xs) h
  where
    by : (b : Bool) → (IsTrue (list_any p xs) → is_some (list.find p xs) ≡ true) → IsTrue (b || list_any p xs) → is_some (cond b (Some x) (list.find p xs)) ≡ true
    by true rest h = refl
    by false rest h = rest h

-- a segment with these tunnels can send to it
abbrev reached_with : Own → List SegmentTunnel → Remote → Bool
reached_with o tunnels r = is_some (of_kind r.tunnel tunnels) && has_family o r.addr

flood-reached : (o : Own) (m : ℕ) (tunnels : List SegmentTunnel) (earlier flood : Entries) → EachBehind (IsRemote o m tunnels) earlier flood → list_all (reached_with o tunnels) flood ≡ true
flood-reached o m tunnels earlier [] each = refl
flood-reached o m tunnels earlier (r ∷ flood) each =
    and_from (reached_with o tunnels r) (list_all (reached_with o tunnels) flood)
    (and_from (is_some (of_kind r.tunnel tunnels)) (has_family o r.addr) (any-found (λ t. same_kind t.kind r.tunnel) tunnels each.0.kind) (family-added o m earlier r.tunnel r.addr (sym (none_is (first (add_faults o m earlier r.tunnel r.addr)) each.0.taken))))
    (flood-reached o m tunnels (earlier ++ r ∷ []) flood each.1)

-- what holds of the segments of all rules holds of each that they tell
told-each : (p : Tunneled → Bool) (rules : List TunnelRule) (w : ℕ) (g : Tunneled) → list_all (λ r. p (overlay.segment_of r)) rules ≡ true → get (from_entries {R = nat_cmp} (map (λ r. (r.vid, overlay.segment_of r)) rules)) w ≡ Some g → p g ≡ true
told-each p [] w g all is = absurd (none-some g (sym (get-empty nat_cmp w) ∙ is))
told-each p (r ∷ rules) w g all is =
    let both = and_parts (p (overlay.segment_of r)) (list_all (λ x. p (overlay.segment_of x)) rules) all in
    by (w == r.vid) both.0 (told-each p rules w g both.1) (sym (get-insert_at (from_entries (map (λ x. (x.vid, overlay.segment_of x)) rules)) r.vid (overlay.segment_of r) w) ∙ is)
  where
    by : (b : Bool) → p (overlay.segment_of r) ≡ true → (get (from_entries {R = nat_cmp} (map (λ x. (x.vid, overlay.segment_of x)) rules)) w ≡ Some g → p g ≡ true) → cond b (Some (overlay.segment_of r)) (get (from_entries {R = nat_cmp} (map (λ x. (x.vid, overlay.segment_of x)) rules)) w) ≡ Some g → p g ≡ true
    by true own rest h = subst (λ (x : Tunneled). p x ≡ true) (same_Some (overlay.segment_of r) g h) own
    by false own rest h = rest h

abbrev flood_reached : Own → Tunneled → Bool
flood_reached o g = list_all (reached_with o g.tunnels) g.flood

segments-reached : (o : Own) (m n : ℕ) (earlier segments : List SegmentRule) → EachBehind (IsSegment o m n) earlier segments → list_all (λ r. flood_reached o (overlay.segment_of r)) (map tunnel_rule segments) ≡ true
segments-reached o m n earlier [] each = refl
segments-reached o m n earlier (s ∷ segments) each =
    and_from (flood_reached o (overlay.segment_of (tunnel_rule s))) (list_all (λ r. flood_reached o (overlay.segment_of r)) (map tunnel_rule segments)) (flood-reached o m s.tunnels [] s.flood each.0.flood) (segments-reached o m n (earlier ++ s ∷ []) segments each.1)

told-reached : (U : Underlay) (m n : ℕ) (segments : List SegmentRule) (w : ℕ) → EachBehind (IsSegment (own U) m n) [] segments → list_all (λ r. reaches (overlay.told U (map tunnel_rule segments)) w r.tunnel r.addr) (overlay.flood_at (overlay.told U (map tunnel_rule segments)) w) ≡ true
told-reached U m n segments w each = by (overlay.segment_at (overlay.told U (map tunnel_rule segments)) w) (λ g is. told-each (flood_reached (own U)) (map tunnel_rule segments) w g (segments-reached (own U) m n [] segments each) is)
  where
    by : (o : Option Tunneled) → ((g : Tunneled) → o ≡ Some g → flood_reached (own U) g ≡ true) → list_all (λ r. is_some (option_and_then (λ h. overlay.tunnel_of h r.tunnel) o) && has_family (own U) r.addr) (option_map_or (λ h. h.flood) o []) ≡ true
    by None all = refl
    by (Some g) all = all g refl

-- ---- empty tables

entries-new : (o : Option TableRule) → (unwrap_or (option_map new_segment o) no_segment).entries ≡ empty
entries-new None = refl
entries-new (Some rule) = refl

aged-entries-new : (t : ℕ) (o : Option TableRule) → (unwrap_or (option_map (aged t) (option_map new_segment o)) no_segment).entries ≡ empty
aged-entries-new t None = refl
aged-entries-new t (Some rule) = kept-empty (is_live (nanoseconds rule.ageing) t)

pub tables-new : (t : ℕ) (rules : List TableRule) → tables_at t (new_segments rules) ≡ (λ vid. empty)
tables-new t rules = fun_ext (λ vid. aged-entries-new t (find (λ r. r.vid == vid) rules))

new-reached : (S : overlay.Overlay) (w : ℕ) (rules : List TableRule) → AreReached S w (unwrap_or (new_segments rules w) no_segment).entries
new-reached S w rules = λ mac.
    ap (λ (m : Table). is_reached_if S w (stands mac m)) (entries-new (find (λ r. r.vid == w) rules))
    ∙ ap (λ o. is_reached_if S w (option_map (λ e. e.place) o)) (get-none mac)

-- ---- what is opened

-- the parts that settings tell
abbrev ports-told : Told → ports.Ports
ports-told s = ports.told s.ports (map member_rule s.segments)

abbrev overlay-told : Told → overlay.Overlay
overlay-told s = overlay.told s.underlay (map tunnel_rule s.segments)

abbrev tables-told : Told → Segments
tables-told s = new_segments (map table_rule s.segments)

pub sound-opened : (s : Told) → MeetsRules s → AreSound (ports-told s) (overlay-told s) (tables-told s)
sound-opened s rules = record {
  members = λ w. get-told (λ r. r.vid) ports.members_of (map member_rule s.segments) w ∙ ap (is_among w) (same-vids member_rule (λ r. r.vid) (λ x. refl) s.segments) ∙ sym (stand w);
  tunnels = λ w. get-told (λ r. r.vid) overlay.segment_of (map tunnel_rule s.segments) w ∙ ap (is_among w) (same-vids tunnel_rule (λ r. r.vid) (λ x. refl) s.segments) ∙ sym (stand w);
  vids = λ w there. within (own s.underlay) s.underlay.limits.flood (length s.ports) [] s.segments w rules.segments (sym (stand w) ∙ there);
  flood = λ w. told-reached s.underlay s.underlay.limits.flood (length s.ports) s.segments w rules.segments;
  tables = λ w. new-reached (overlay-told s) w (map table_rule s.segments);
}
  where
    stand : (w : ℕ) → is_some (tables-told s w) ≡ is_among w (map (λ x. x.vid) s.segments)
    stand w = some-map new_segment (find (λ r. r.vid == w) (map table_rule s.segments)) ∙ find-told (map table_rule s.segments) w ∙ ap (is_among w) (same-vids table_rule (λ r. r.vid) (λ x. refl) s.segments)

-- the table of a VID is told by its segment
find-rule : (segments : List SegmentRule) (w : ℕ) → find (λ r. r.vid == w) (map table_rule segments) ≡ option_map table_rule (find (λ s. s.vid == w) segments)
find-rule [] w = refl
find-rule (s ∷ segments) w = by (s.vid == w) (find-rule segments w)
  where
    by : (b : Bool) → find (λ r. r.vid == w) (map table_rule segments) ≡ option_map table_rule (find (λ x. x.vid == w) segments) → cond b (Some (table_rule s)) (find (λ r. r.vid == w) (map table_rule segments)) ≡ option_map table_rule (cond b (Some s) (find (λ x. x.vid == w) segments))
    by true rest = refl
    by false rest = rest

abbrev bridge-told : Bool → SegmentRule → BridgeSettings
bridge-told learning s = record { limit = s.limit; ageing = s.ageing; learning = learning }

bridge-new : (b c : Bool) (o : Option SegmentRule) → b ≡ c → option_map (bridge_of b) (option_map new_segment (option_map table_rule o)) ≡ option_map (bridge-told c) o
bridge-new b c None same = refl
bridge-new b c (Some s) same = ap (λ (x : Bool). Some (bridge-told x s)) same

pub state-opened : (s : Told) (t : ℕ) (learning : List Bool) → ((vid : ℕ) → learns learning vid ≡ tells_learning s.segments vid) → ◌≡◌ {A = State} (record { settings = settings_by (ports-told s) (overlay-told s) learning s.pool (tables-told s); tables = tables_at t (tables-told s) }) (opened s)
state-opened s t learning same =
    ap (λ (x : ℕ → Option BridgeSettings). let S : State = record { settings = record { ports = ports-told s; overlay = overlay-told s; bridges = x; pool = s.pool }; tables = tables_at t (tables-told s) } in S)
    (fun_ext (λ vid. ap (λ (o : Option TableRule). option_map (bridge_of (learns learning vid)) (option_map new_segment o)) (find-rule s.segments vid) ∙ bridge-new (learns learning vid) (tells_learning s.segments vid) (find (λ x. x.vid == vid) s.segments) (same vid)))
    ∙ ap (λ (x : ℕ → Table). let S : State = record { settings = settings_told s; tables = x } in S) (tables-new t (map table_rule s.segments))

-- the same, of parts that are these
-- layers are those that settings tell
pub record AreTold (s : Told) (p : ports.Ports) (u : overlay.Overlay) (g : Segments) : Type 0 where
  pub is_ports : p ≡ ports-told s
  pub is_under : u ≡ overlay-told s
  pub is_tables : g ≡ tables-told s

-- those that are opened with the rules that settings tell
pub told-layers : (s told : Told) (numbered : List PortRule) (members : List MemberRule) (underlay : Underlay) (tunnels : List TunnelRule) (rules : List TableRule) (p : ports.Ports) (u : overlay.Overlay) (g : Segments) → told ≡ s → numbered ≡ told.ports → members ≡ map member_rule told.segments → underlay ≡ told.underlay → tunnels ≡ map tunnel_rule told.segments → rules ≡ map table_rule told.segments → p ≡ ports.told numbered members → u ≡ overlay.told underlay tunnels → g ≡ new_segments rules → AreTold s p u g
told-layers s told numbered members underlay tunnels rules p u g same is_numbered is_members is_underlay is_tunnels is_rules p_is u_is g_is = record {
  is_ports = p_is ∙ ap (λ (x : List PortRule). ports.told x members) is_numbered ∙ ap (λ (x : List MemberRule). ports.told told.ports x) is_members ∙ ap (λ (x : Told). ports-told x) same;
  is_under = u_is ∙ ap (λ (x : Underlay). overlay.told x tunnels) is_underlay ∙ ap (λ (x : List TunnelRule). overlay.told told.underlay x) is_tunnels ∙ ap (λ (x : Told). overlay-told x) same;
  is_tables = g_is ∙ ap new_segments is_rules ∙ ap (λ (x : Told). tables-told x) same;
}

pub sound-as : (s : Told) (p : ports.Ports) (u : overlay.Overlay) (g : Segments) → MeetsRules s → AreTold s p u g → AreSound p u g
sound-as s p u g rules are = sound-same (ports-told s) p (overlay-told s) u (tables-told s) g are.is_ports are.is_under are.is_tables (sound-opened s rules)

pub state-as : (s : Told) (t : ℕ) (p : ports.Ports) (u : overlay.Overlay) (g : Segments) (learning : List Bool) (pool : ℕ) → AreTold s p u g → pool ≡ s.pool → ((vid : ℕ) → learns learning vid ≡ tells_learning s.segments vid) → ◌≡◌ {A = State} (record { settings = settings_by p u learning pool g; tables = tables_at t g }) (opened s)
state-as s t p u g learning pool are is_pool same =
    state-same t (ports-told s) p (overlay-told s) u learning s.pool pool (tables-told s) g are.is_ports are.is_under is_pool are.is_tables
    ∙ state-opened s t learning same
