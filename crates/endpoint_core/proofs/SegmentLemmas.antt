-- Segments that come, go or get another limit.
use Rattle.std.proofs.Common.{◌≡◌, ℕ, ◌≤◌, ◌==◌, Bool, true, false, cond, ◌&&◌, List, [], ◌∷◌, Option, Some, None, refl, sym, ap, ◌∙◌, subst}
use Rattle.std.specs.Prelude.{is_some, nat_lt}
use Rattle.std.specs.Option.{option_map, option_map_or, option_and_then, unwrap_or}
use Rattle.std.specs.List.{list_all}
use Rattle.std.specs.FinMap.{empty, len}
use Rattle.std.proofs.Math.Path.{fun_ext}
use Rattle.std.proofs.lemmas.Bool.{eqb-true}
use Rattle.wire.specs.declared.ip_udp.addr.Addr.{Addr}
use Rattle.wire.specs.declared.ip_udp.addr.Tunnel.{Tunnel}
use Rattle.overlay.specs.Flood.{Entries, has_family}
use Rattle.filter_db.specs.declared.entry.Entry.{Entry}
use Rattle.filter_db.specs.declared.place.Place.{Place}
use Rattle.filter_db.specs.declared.place.Place.TheVariants.{Local, Remote}
use Rattle.filter_db.specs.declared.tables.TableRule.{TableRule}
use Rattle.filter_db.specs.Table.{Table, stands}
use Rattle.filter_db.specs.Segment.{Segment, Segments, no_segment, aged, aged_all, adjusted, new_segment}
use Rattle.filter_db.specs.Standing.{added, removed, set_limit_in}
use Rattle.filter_db.proofs.TableLemmas.{get-none}
use Rattle.overlay.specs.Ports.{Ports, Members}
use Rattle.overlay.specs.Ports as ports
use Rattle.overlay.proofs.PlacesLemmas.{get-insert_at, get-remove_at}
use Rattle.overlay.specs.UnderlaySettings.{own}
use Rattle.overlay.specs.Overlay.{Overlay, segment_of, segment_at as under_at, tunnel_of, flood_at}
use Rattle.overlay.specs.Overlay as overlay
use Rattle.overlay.specs.declared.underlay.segment.Segment.{Segment as Tunneled}
use Rattle.overlay.specs.declared.settings.change.NewSegment.{NewSegment}
use Rattle.overlay.specs.declared.settings.change.Change.{Change}
use Rattle.overlay.specs.declared.settings.change.Change.TheVariants.{AddSegment, RemoveSegment, SetLimit}
use Rattle.endpoint_core.specs.Effect.{new_tunnels, new_bridge}
use Rattle.endpoint_core.specs.Change.{is_about, refused, entries_changed}
use Rattle.endpoint_core.specs.Learning.{learns}
use Rattle.endpoint_core.specs.Settings.{BridgeSettings, SegmentSettings, joined, segment_at}
use Rattle.endpoint_core.specs.Sound.{reaches, is_reached_if, AreReached, AreSound}
use Rattle.endpoint_core.specs.State.{State, bridge_of, bridges_of, settings_by, tables_at, table_changed, after_change}
use Rattle.endpoint_core.proofs.AfterLemmas.{after-accepted, changed-own, tables-named}
use Rattle.endpoint_core.proofs.SoundLemmas.{aged-reached, sound-adjusted}
use Rattle.endpoint_core.proofs.StandsLemmas.{Stands}

abbrev entries_in : Option Segment → Table
entries_in o = (unwrap_or o no_segment).entries

-- ---- a segment that isn't there

no_settings : (bridge : Option BridgeSettings) (g : Option Tunneled) (members : Option Members) → bridge ≡ None → option_and_then (λ b. option_and_then (λ h. option_map (λ m. joined b h m) members) g) bridge ≡ None
no_settings None g members is = refl
no_settings (Some b) g members is = absurd (cc)

-- it has no settings, whatever the pool is
pub absent-settings : (P : Ports) (O : Overlay) (learning : List Bool) (pool : ℕ) (segments : Segments) (vid : ℕ) → segments vid ≡ None → segment_at (settings_by P O learning pool segments) vid ≡ None
absent-settings P O learning pool segments vid absent = no_settings (option_map (bridge_of (learns learning vid)) (segments vid)) (under_at O vid) (ports.members_at P vid) (ap (option_map (bridge_of (learns learning vid))) absent)

-- ---- one comes

bridge_added : (b : Bool) (learns_now learned_before : Bool) (rule : TableRule) (new : NewSegment) (t : ℕ) (o : Option Segment) → rule.limit ≡ new.limit → rule.ageing ≡ new.ageing → learns_now ≡ cond b new.learning learned_before
    → option_map (bridge_of learns_now) (cond b (Some (new_segment rule)) (option_map (aged t) o)) ≡ cond b (Some (new_bridge new)) (option_map (bridge_of learned_before) o)
bridge_added true learns_now before rule new t o limit ageing on = λ i. Some (record { limit = limit i; ageing = ageing i; learning = on i })
bridge_added false learns_now before rule new t None limit ageing on = refl
bridge_added false learns_now before rule new t (Some s) limit ageing on = λ i. Some (record { limit = s.limit; ageing = s.ageing; learning = on i })

-- a segment that the change isn't about
left_alone : (t : ℕ) (c : Change) (o : Option SegmentSettings) (w : ℕ) (m : Table) → is_about w c ≡ false → table_changed t c o w m ≡ m
left_alone t c None w m other = ap (λ (b : Bool). cond b empty m) other
left_alone t c (Some s) w m other = ap (λ (b : Bool). cond b (entries_changed t s c m) m) other

pub after-added : (t : ℕ) (new : NewSegment) (rule : TableRule) (P : Ports) (O : Overlay) (learning learning' : List Bool) (pool pool' : ℕ) (segments after : Segments) → rule.vid ≡ new.vid → rule.limit ≡ new.limit → rule.ageing ≡ new.ageing → segments new.vid ≡ None → None ≡ refused (settings_by P O learning pool segments) (AddSegment new) → ((w : ℕ) → learns learning' w ≡ cond (w == new.vid) new.learning (learns learning w)) → after ≡ added rule (aged_all t segments) → aged_all t after ≡ after → pool' ≡ pool
    → ◌≡◌ {A = State} (record { settings = settings_by (ports.with_segment P new.vid) (overlay.with_segment O (new_tunnels new)) learning' pool' after; tables = tables_at t after }) (after_change t (AddSegment new) (record { settings = settings_by P O learning pool segments; tables = tables_at t segments }))
after-added t new rule P O learning learning' pool pool' segments after vid limit ageing absent none on is settled stays =
    after-accepted t (AddSegment new) (record { settings = settings_by P O learning pool segments; tables = tables_at t segments }) _ (tables_at t after) (sym none)
    (λ i. record { ports = ports.with_segment P new.vid; overlay = overlay.with_segment O (new_tunnels new); bridges = bridges i; pool = stays i })
    (fun_ext (λ w. ap (λ (s : Segments). entries_in (s w)) (settled ∙ is) ∙ at w (w == new.vid) refl))
  where
    bridges : bridges_of learning' after ≡ (λ w. cond (w == new.vid) (Some (new_bridge new)) (bridges_of learning segments w))
    bridges =
        ap (bridges_of learning') is
        ∙ fun_ext (λ w. ap (λ (v : ℕ). option_map (bridge_of (learns learning' w)) (cond (w == v) (Some (new_segment rule)) (option_map (aged t) (segments w)))) vid
        ∙ bridge_added (w == new.vid) (learns learning' w) (learns learning w) rule new t (segments w) limit ageing (on w))

    at : (w : ℕ) (b : Bool) → (w == new.vid) ≡ b → entries_in (added rule (aged_all t segments) w) ≡ table_changed t (AddSegment new) (segment_at (settings_by P O learning pool segments) w) w (entries_in (aged_all t segments w))
    at w true own =
        ap (λ (v : ℕ). entries_in (cond (w == v) (Some (new_segment rule)) (option_map (aged t) (segments w)))) vid
        ∙ ap (λ (x : Bool). entries_in (cond x (Some (new_segment rule)) (option_map (aged t) (segments w)))) own
        ∙ sym (ap (λ (o : Option SegmentSettings). table_changed t (AddSegment new) o w (entries_in (aged_all t segments w)))
        (ap (λ (v : ℕ). segment_at (settings_by P O learning pool segments) v) (eqb-true w new.vid own) ∙ absent-settings P O learning pool segments new.vid absent)
        ∙ ap (λ (x : Bool). cond x empty (entries_in (aged_all t segments w))) own)
    at w false other =
        ap (λ (v : ℕ). entries_in (cond (w == v) (Some (new_segment rule)) (option_map (aged t) (segments w)))) vid
        ∙ ap (λ (x : Bool). entries_in (cond x (Some (new_segment rule)) (option_map (aged t) (segments w)))) other
        ∙ sym (left_alone t (AddSegment new) (segment_at (settings_by P O learning pool segments) w) w (entries_in (aged_all t segments w)) other)

-- ---- one goes

bridge_removed : (b learning : Bool) (t : ℕ) (o : Option Segment) → option_map (bridge_of learning) (cond b None (option_map (aged t) o)) ≡ cond b None (option_map (bridge_of learning) o)
bridge_removed true learning t o = refl
bridge_removed false learning t None = refl
bridge_removed false learning t (Some s) = refl

pub after-removed : (t vid : ℕ) (P : Ports) (O : Overlay) (learning : List Bool) (pool pool' : ℕ) (segments after : Segments) (it : Stands P O learning segments vid) → None ≡ refused (settings_by P O learning pool segments) (RemoveSegment vid) → after ≡ removed vid (aged_all t segments) → aged_all t after ≡ after → pool' ≡ pool
    → ◌≡◌ {A = State} (record { settings = settings_by (ports.without_segment P vid) (overlay.without_segment O vid) learning pool' after; tables = tables_at t after }) (after_change t (RemoveSegment vid) (record { settings = settings_by P O learning pool segments; tables = tables_at t segments }))
after-removed t vid P O learning pool pool' segments after it none is settled stays =
    after-accepted t (RemoveSegment vid) (record { settings = settings_by P O learning pool segments; tables = tables_at t segments }) _ (tables_at t after) (sym none)
    (λ i. record { ports = ports.without_segment P vid; overlay = overlay.without_segment O vid; bridges = bridges i; pool = stays i })
    (fun_ext (λ w. ap (λ (s : Segments). entries_in (s w)) (settled ∙ is) ∙ at w (w == vid) refl))
  where
    bridges : bridges_of learning after ≡ (λ w. cond (w == vid) None (bridges_of learning segments w))
    bridges = ap (bridges_of learning) is ∙ fun_ext (λ w. bridge_removed (w == vid) (learns learning w) t (segments w))

    at : (w : ℕ) (b : Bool) → (w == vid) ≡ b → entries_in (removed vid (aged_all t segments) w) ≡ table_changed t (RemoveSegment vid) (segment_at (settings_by P O learning pool segments) w) w (entries_in (aged_all t segments w))
    at w true own =
        ap (λ (x : Bool). entries_in (cond x None (option_map (aged t) (segments w)))) own
        ∙ sym (changed-own t (RemoveSegment vid) (joined (bridge_of (learns learning vid) it.table) it.tunneled it.members) (segment_at (settings_by P O learning pool segments) w) w (entries_in (aged_all t segments w))
        (ap (λ (v : ℕ). segment_at (settings_by P O learning pool segments) v) (eqb-true w vid own) ∙ it.settings) own)
    at w false other =
        ap (λ (x : Bool). entries_in (cond x None (option_map (aged t) (segments w)))) other
        ∙ sym (left_alone t (RemoveSegment vid) (segment_at (settings_by P O learning pool segments) w) w (entries_in (aged_all t segments w)) other)

-- ---- one gets another limit

bridge_limited : (b learning : Bool) (t limit : ℕ) (o : Option Segment) → option_map (bridge_of learning) (cond b (option_map (set_limit_in limit) (option_map (aged t) o)) (option_map (aged t) o)) ≡ cond b (option_map (λ (r : BridgeSettings). let new : BridgeSettings = record r { limit = limit } in new) (option_map (bridge_of learning) o)) (option_map (bridge_of learning) o)
bridge_limited true learning t limit None = refl
bridge_limited true learning t limit (Some s) = refl
bridge_limited false learning t limit None = refl
bridge_limited false learning t limit (Some s) = refl

pub after-limited : (t vid limit : ℕ) (P : Ports) (O : Overlay) (learning : List Bool) (pool pool' : ℕ) (segments after : Segments) (it : Stands P O learning segments vid) → None ≡ refused (settings_by P O learning pool segments) (SetLimit vid limit) → after ≡ adjusted vid (set_limit_in limit) (aged_all t segments) → aged_all t after ≡ after → pool' ≡ pool
    → ◌≡◌ {A = State} (record { settings = settings_by P O learning pool' after; tables = tables_at t after }) (after_change t (SetLimit vid limit) (record { settings = settings_by P O learning pool segments; tables = tables_at t segments }))
after-limited t vid limit P O learning pool pool' segments after it none is settled stays =
    after-accepted t (SetLimit vid limit) (record { settings = settings_by P O learning pool segments; tables = tables_at t segments }) _ (tables_at t after) (sym none)
    (λ i. record { ports = P; overlay = O; bridges = bridges i; pool = stays i })
    (tables-named t vid (SetLimit vid limit) (set_limit_in limit) (settings_by P O learning pool segments) (joined (bridge_of (learns learning vid) it.table) it.tunneled it.members) it.table segments after refl it.settings it.has_table is settled refl)
  where
    bridges : bridges_of learning after ≡ (λ w. cond (w == vid) (option_map (λ (r : BridgeSettings). let new : BridgeSettings = record r { limit = limit } in new) (bridges_of learning segments w)) (bridges_of learning segments w))
    bridges = ap (bridges_of learning) is ∙ fun_ext (λ w. bridge_limited (w == vid) (learns learning w) t limit (segments w))

-- ---- what always holds

-- what a segment can send to is told by its tunnels and the underlay
module _ (O O' : Overlay) (w : ℕ) (underlay : O'.underlay ≡ O.underlay) (here : under_at O' w ≡ under_at O w) where
  reaches_same : (kind : Tunnel) (addr : Addr) → reaches O' w kind addr ≡ reaches O w kind addr
  reaches_same kind addr = λ i. is_some (option_and_then (λ h. tunnel_of h kind) (here i)) && has_family (own (underlay i)) addr

  if_same : (place : Option Place) → is_reached_if O' w place ≡ is_reached_if O w place
  if_same None = refl
  if_same (Some (Local port)) = refl
  if_same (Some (Remote kind addr)) = reaches_same kind addr

  all_same : (rs : Entries) → list_all (λ r. reaches O' w r.tunnel r.addr) rs ≡ list_all (λ r. reaches O w r.tunnel r.addr) rs
  all_same [] = refl
  all_same (r ∷ rs) = λ i. reaches_same r.tunnel r.addr i && all_same rs i

  pub flood_same : list_all (λ r. reaches O w r.tunnel r.addr) (flood_at O w) ≡ true → list_all (λ r. reaches O' w r.tunnel r.addr) (flood_at O' w) ≡ true
  flood_same h = ap (λ (o : Option Tunneled). list_all (λ r. reaches O' w r.tunnel r.addr) (option_map_or (λ g. g.flood) o [])) here ∙ all_same (flood_at O w) ∙ h

  pub table_same : (m : Table) → AreReached O w m → AreReached O' w m
  table_same m h = λ mac. if_same (stands mac m) ∙ h mac

pub nothing_reached : (O : Overlay) (w : ℕ) → AreReached O w empty
nothing_reached O w = λ mac. ap (λ (o : Option Entry). is_reached_if O w (option_map (λ e. e.place) o)) (get-none mac)

some_same : {A C : Type 0} (b : Bool) (a : A) (c : C) (o : Option A) (q : Option C) (t : C → C) → is_some o ≡ is_some q → is_some (cond b (Some a) o) ≡ is_some (cond b (Some c) (option_map t q))
some_same true a c o q t same = refl
some_same false a c o None t same = same
some_same false a c o (Some x) t same = same

none_same : {A C : Type 0} (b : Bool) (o : Option A) (q : Option C) (t : C → C) → is_some o ≡ is_some q → is_some (cond b None o) ≡ is_some (cond b None (option_map t q))
none_same true o q t same = refl
none_same false o None t same = same
none_same false o (Some x) t same = same

pub sound-added : (t : ℕ) (new : NewSegment) (rule : TableRule) (P : Ports) (O : Overlay) (segments after : Segments) → AreSound P O segments → (1 ≤ new.vid) × (new.vid ≤ 4094) → rule.vid ≡ new.vid → after ≡ added rule (aged_all t segments) → AreSound (ports.with_segment P new.vid) (overlay.with_segment O (new_tunnels new)) after
sound-added t new rule P O segments after sound range vid is = subst (λ (s : Segments). AreSound P' O' s) (sym (is ∙ same_vid)) (record {
  members = λ w. ap is_some (get-insert_at P.segments new.vid empty w) ∙ some_same (w == new.vid) empty (new_segment rule) (ports.members_at P w) (segments w) (aged t) (sound.members w);
  tunnels = λ w. ap is_some (under w) ∙ some_same (w == new.vid) (segment_of (new_tunnels new)) (new_segment rule) (under_at O w) (segments w) (aged t) (sound.tunnels w);
  vids = λ w. in_range w (w == new.vid) refl;
  flood = λ w. floods w (w == new.vid) refl;
  tables = λ w. tables w (w == new.vid) refl;
})
  where
    P' : Ports
    P' = ports.with_segment P new.vid

    O' : Overlay
    O' = overlay.with_segment O (new_tunnels new)

    same_vid : added rule (aged_all t segments) ≡ (λ w. cond (w == new.vid) (Some (new_segment rule)) (option_map (aged t) (segments w)))
    same_vid = ap (λ (v : ℕ). let s : Segments = λ w. cond (w == v) (Some (new_segment rule)) (option_map (aged t) (segments w)) in s) vid

    under : (w : ℕ) → under_at (overlay.with_segment O (new_tunnels new)) w ≡ cond (w == new.vid) (Some (segment_of (new_tunnels new))) (under_at O w)
    under w = get-insert_at O.segments new.vid (segment_of (new_tunnels new)) w

    other_under : (w : ℕ) → (w == new.vid) ≡ false → under_at (overlay.with_segment O (new_tunnels new)) w ≡ under_at O w
    other_under w other = under w ∙ ap (λ (b : Bool). cond b (Some (segment_of (new_tunnels new))) (under_at O w)) other

    aged_some : (o : Option Segment) → is_some (option_map (aged t) o) ≡ true → is_some o ≡ true
    aged_some None h = h
    aged_some (Some s) h = refl

    in_range : (w : ℕ) (b : Bool) → (w == new.vid) ≡ b → is_some (cond (w == new.vid) (Some (new_segment rule)) (option_map (aged t) (segments w))) ≡ true → (1 ≤ w) × (w ≤ 4094)
    in_range w true own there = subst (λ (v : ℕ). (1 ≤ v) × (v ≤ 4094)) (sym (eqb-true w new.vid own)) range
    in_range w false other there = sound.vids w (aged_some (segments w) (sym (ap (λ (b : Bool). is_some (cond b (Some (new_segment rule)) (option_map (aged t) (segments w)))) other) ∙ there))

    floods : (w : ℕ) (b : Bool) → (w == new.vid) ≡ b → list_all (λ r. reaches (overlay.with_segment O (new_tunnels new)) w r.tunnel r.addr) (flood_at (overlay.with_segment O (new_tunnels new)) w) ≡ true
    floods w true own = ap (λ (o : Option Tunneled). list_all (λ r. reaches (overlay.with_segment O (new_tunnels new)) w r.tunnel r.addr) (option_map_or (λ g. g.flood) o [])) (under w ∙ ap (λ (b : Bool). cond b (Some (segment_of (new_tunnels new))) (under_at O w)) own)
    floods w false other = flood_same O (overlay.with_segment O (new_tunnels new)) w refl (other_under w other) (sound.flood w)

    tables : (w : ℕ) (b : Bool) → (w == new.vid) ≡ b → AreReached (overlay.with_segment O (new_tunnels new)) w (entries_in (cond (w == new.vid) (Some (new_segment rule)) (option_map (aged t) (segments w))))
    tables w true own = subst (λ (b : Bool). AreReached (overlay.with_segment O (new_tunnels new)) w (entries_in (cond b (Some (new_segment rule)) (option_map (aged t) (segments w))))) (sym own) (nothing_reached (overlay.with_segment O (new_tunnels new)) w)
    tables w false other =
        subst (λ (b : Bool). AreReached (overlay.with_segment O (new_tunnels new)) w (entries_in (cond b (Some (new_segment rule)) (option_map (aged t) (segments w))))) (sym other)
        (table_same O (overlay.with_segment O (new_tunnels new)) w refl (other_under w other) (entries_in (option_map (aged t) (segments w))) (aged-reached O w t (segments w) (sound.tables w)))

pub sound-removed : (t vid : ℕ) (P : Ports) (O : Overlay) (segments after : Segments) → AreSound P O segments → after ≡ removed vid (aged_all t segments) → AreSound (ports.without_segment P vid) (overlay.without_segment O vid) after
sound-removed t vid P O segments after sound is = subst (λ (s : Segments). AreSound (ports.without_segment P vid) (overlay.without_segment O vid) s) (sym is) (record {
  members = λ w. ap is_some (get-remove_at P.segments vid w) ∙ none_same (w == vid) (ports.members_at P w) (segments w) (aged t) (sound.members w);
  tunnels = λ w. ap is_some (under w) ∙ none_same (w == vid) (under_at O w) (segments w) (aged t) (sound.tunnels w);
  vids = λ w there. sound.vids w (before (w == vid) (segments w) there);
  flood = λ w. floods w (w == vid) refl;
  tables = λ w. tables w (w == vid) refl;
})
  where
    under : (w : ℕ) → under_at (overlay.without_segment O vid) w ≡ cond (w == vid) None (under_at O w)
    under w = get-remove_at O.segments vid w

    other_under : (w : ℕ) → (w == vid) ≡ false → under_at (overlay.without_segment O vid) w ≡ under_at O w
    other_under w other = under w ∙ ap (λ (b : Bool). cond b None (under_at O w)) other

    before : (b : Bool) (o : Option Segment) → is_some (cond b None (option_map (aged t) o)) ≡ true → is_some o ≡ true
    before true o h = absurd (cc)
    before false None h = h
    before false (Some s) h = refl

    floods : (w : ℕ) (b : Bool) → (w == vid) ≡ b → list_all (λ r. reaches (overlay.without_segment O vid) w r.tunnel r.addr) (flood_at (overlay.without_segment O vid) w) ≡ true
    floods w true own = ap (λ (o : Option Tunneled). list_all (λ r. reaches (overlay.without_segment O vid) w r.tunnel r.addr) (option_map_or (λ g. g.flood) o [])) (under w ∙ ap (λ (b : Bool). cond b None (under_at O w)) own)
    floods w false other = flood_same O (overlay.without_segment O vid) w refl (other_under w other) (sound.flood w)

    tables : (w : ℕ) (b : Bool) → (w == vid) ≡ b → AreReached (overlay.without_segment O vid) w (entries_in (cond (w == vid) None (option_map (aged t) (segments w))))
    tables w true own = subst (λ (b : Bool). AreReached (overlay.without_segment O vid) w (entries_in (cond b None (option_map (aged t) (segments w))))) (sym own) (nothing_reached (overlay.without_segment O vid) w)
    tables w false other =
        subst (λ (b : Bool). AreReached (overlay.without_segment O vid) w (entries_in (cond b None (option_map (aged t) (segments w))))) (sym other)
        (table_same O (overlay.without_segment O vid) w refl (other_under w other) (entries_in (option_map (aged t) (segments w))) (aged-reached O w t (segments w) (sound.tables w)))

limited_reached : (O : Overlay) (vid : ℕ) (b : Bool) (m : Table) → AreReached O vid m → AreReached O vid (cond b empty m)
limited_reached O vid true m h = nothing_reached O vid
limited_reached O vid false m h = h

pub sound-limited : (t vid limit : ℕ) (P : Ports) (O : Overlay) (segments after : Segments) → AreSound P O segments → after ≡ adjusted vid (set_limit_in limit) (aged_all t segments) → AreSound P O after
sound-limited t vid limit P O segments after sound is = sound-adjusted t vid (set_limit_in limit) P O segments after sound (λ s h. limited_reached O vid (nat_lt limit (len s.entries)) s.entries h) is
