-- What an endpoint knows of remote places it can send to.
use Rattle.std.proofs.Common.{◌≡◌, ℕ, Bool, true, false, cond, List, [], ◌∷◌, ◌++◌, Option, Some, None, Result, Ok, Err, refl, sym, ap, ◌∙◌, subst}
use Rattle.std.specs.Prelude.{is_some, is_none, ◌==◌, nat_lt}
use Rattle.std.specs.Option.{option_map, option_map_or, unwrap_or}
use Rattle.std.specs.List.{list_all}
use Rattle.std.specs.FinMap.{get, insert, empty, len}
use Rattle.std.proofs.lemmas.Bool.{eqb-true, and_from, false≢true}
use Rattle.wire.specs.Address.{is_group as is_group_mac}
use Rattle.wire.specs.Frame.{Frame}
use Rattle.wire.specs.declared.ether.reason.Refused.{Refused}
use Rattle.wire.specs.declared.ip_udp.addr.Addr.{Addr}
use Rattle.wire.specs.declared.ip_udp.addr.Tunnel.{Tunnel}
use Rattle.wire.specs.declared.ip_udp.addr.Tunnel.TheVariants.{Vxlan}
use Rattle.overlay.specs.Flood.{Entries, has_family, without}
use Rattle.overlay.specs.declared.flood.fault.FloodFault.{FloodFault}
use Rattle.filter_db.specs.declared.entry.Entry.{Entry}
use Rattle.filter_db.specs.declared.place.Place.{Place}
use Rattle.filter_db.specs.Table.{Table, learn, nanoseconds, is_live, stands}
use Rattle.filter_db.proofs.TableLemmas.{get-none}
use Rattle.overlay.proofs.PlacesLemmas.{get-insert_at, get-remove_at}
use Rattle.overlay.specs.UnderlaySettings.{own}
use Rattle.overlay.specs.Overlay.{Overlay, segment_of, flood_at, tunnel_at, with_flood, segment_at as under_at}
use Rattle.overlay.specs.declared.underlay.segment.Segment.{Segment}
use Rattle.overlay.specs.declared.settings.change.NewSegment.{NewSegment}
use Rattle.overlay.specs.declared.settings.change.Change.{Change}
use Rattle.overlay.specs.declared.settings.change.Change.TheVariants.{AddFlood, RemoveFlood, Fix, Unfix, SetAgeing, SetLearning, SetMember, PortUp, PortDown, Flush, AddSegment, RemoveSegment, SetLimit}
use Rattle.overlay.specs.declared.settings.change.Target.{Target as Goal}
use Rattle.overlay.specs.declared.settings.change.Target.TheVariants as target
use Rattle.overlay.specs.Rules.{MeetsRules}
use Rattle.overlay.specs.Settings.{Settings as Told}
use Rattle.endpoint_core.specs.Opened.{settings_told}
use Rattle.endpoint_core.specs.declared.state.fault.ChangeFault.{ChangeFault}
use Rattle.endpoint_core.specs.Fault.{of_flood}
use Rattle.endpoint_core.specs.Effect.{effect, new_tunnels, with_segment, without_segment}
use Rattle.endpoint_core.proofs.SegmentLemmas.{flood_same, table_same}
use Rattle.endpoint_core.specs.Settings.{Settings, BridgeSettings, SegmentSettings, segment_at, kind_named}
use Rattle.endpoint_core.specs.Change.{is_about, in_segment, at_tunnel, target_fault, refused, kind_in, accepted, place_of, entries_changed}
use Rattle.endpoint_core.specs.Sound.{reaches, is_reached, is_reached_if, AreReached}
use Rattle.endpoint_core.specs.State.{State as Bridges, live_in, aged, table_changed, accepted_state, after_change}
use Rattle.endpoint_core.specs.StateStep.{table_learned, after_frame}
use Rattle.endpoint_core.proofs.SoundLemmas.{reached-kept, reached-learn, reached-fix, reached-unfix, reached-added, reached-without, kind-there, family-added, family-fixed}
use Rattle.endpoint_core.proofs.OpenLemmas.{sound-opened}
use Rattle.endpoint_core.specs.Arrival.{Arrival}
use Rattle.endpoint_core.specs.Arrival.{came_at, came_by}
use Rattle.endpoint_core.specs.Event.{Input, FrameAt, Packet, Asks, Event}
use Rattle.endpoint_core.specs.Step.{State, opened, after_came, bridges_after, after, state_after}
use Rattle.endpoint_core.proofs.ComingLemmas.{arrived-reached}
use Rattle.mesh_delivery.proofs.Entering.{came_at-entered}
use Rattle.mesh_delivery.proofs.Wire.{came_by-arrived}
use Rattle.mesh_delivery.proofs.Keeping.{moves, Keeps-accepted, new-absent, Stays, Stays-itself, Stays-accepted, if-kept, all-kept, reached, is-of}

-- ---- what is known

pub record Knows (B : Bridges) : Type 0 where
  pub flood : (vid : ℕ) → list_all (reached B.settings.overlay vid) (flood_at B.settings.overlay vid) ≡ true
  pub tables : (vid : ℕ) → AreReached B.settings.overlay vid (B.tables vid)

empty-reached : (O : Overlay) (vid : ℕ) → AreReached O vid empty
empty-reached O vid = λ mac. ap (λ (o : Option Entry). is_reached_if O vid (option_map (λ e. e.place) o)) (get-none mac)

live-reached : (O : Overlay) (vid : ℕ) (o : Option BridgeSettings) (t : ℕ) (m : Table) → AreReached O vid m → AreReached O vid (live_in o t m)
live-reached O vid None t m h = empty-reached O vid
live-reached O vid (Some bridge) t m h = reached-kept O vid (is_live (nanoseconds bridge.ageing) t) m h

pub Knows-aged : (t : ℕ) (B : Bridges) → Knows B → Knows (aged t B)
Knows-aged t B k = record { flood = k.flood; tables = λ vid. live-reached B.settings.overlay vid (B.settings.bridges vid) t (B.tables vid) (k.tables vid) }

pub Knows-opened : (s : Told) → MeetsRules s → Knows (opened (settings_told s)).bridges
Knows-opened s rules = record { flood = (sound-opened s rules).flood; tables = λ vid. empty-reached (settings_told s).overlay vid }

-- ---- a frame

learned-reached : (O : Overlay) (vid t : ℕ) (from : Place) (f : Frame) (o : Option SegmentSettings) (m : Table) → is_reached O vid from ≡ true → AreReached O vid m → AreReached O vid (table_learned t from f o m)
learned-reached O vid t from f None m own h = h
learned-reached O vid t from f (Some s) m own h = by s.learning
  where
    by : (b : Bool) → AreReached O vid (cond b (learn s.limit t from f.src m) m)
    by true = reached-learn O vid s.limit t from f.src m own h
    by false = h

pub Knows-frame : (t vid : ℕ) (from : Place) (f : Frame) (B : Bridges) → is_reached B.settings.overlay vid from ≡ true → Knows B → Knows (after_frame t vid from f B)
Knows-frame t vid from f B own k = record { flood = k.flood; tables = λ w. by w (w == vid) refl }
  where
    by : (w : ℕ) (b : Bool) → (w == vid) ≡ b → AreReached B.settings.overlay w (cond b (table_learned t from f (segment_at B.settings w) (B.tables w)) (B.tables w))
    by w true same = learned-reached B.settings.overlay w t from f (segment_at B.settings w) (B.tables w) (ap (λ (v : ℕ). is_reached B.settings.overlay v from) (eqb-true w vid same) ∙ own) (k.tables w)
    by w false other = k.tables w

-- ---- a change that the settings don't refuse

same_Some : {X : Type 0} (x y : X) → Some x ≡ Some y → x ≡ y
same_Some x y h = cc

in-segment : (o : Option SegmentSettings) (next : SegmentSettings → Option ChangeFault) (s : SegmentSettings) → o ≡ Some s → in_segment o next ≡ None → next s ≡ None
in-segment o next s is h = sym (ap (λ (p : Option SegmentSettings). in_segment p next) is) ∙ h

at-tunnel : (o : Option Tunnel) (next : Tunnel → Option ChangeFault) → at_tunnel o next ≡ None → (k : Tunnel) × (o ≡ Some k) × (next k ≡ None)
at-tunnel None next h = absurd cc
at-tunnel (Some k) next h = (k, refl, h)

no_fault : (o : Option FloodFault) → option_map of_flood o ≡ None → o ≡ None
no_fault None h = refl
no_fault (Some fault) h = absurd cc

-- the tunnel that a change means is the segment's
reached-in : (S : Settings) (vid : ℕ) (s : SegmentSettings) (tunnel : Option Tunnel) (k : Tunnel) (addr : Addr) → segment_at S vid ≡ Some s → kind_named s.tunnels tunnel ≡ Some k → has_family (own S.overlay.underlay) addr ≡ true → reaches S.overlay vid (kind_in s.tunnels tunnel) addr ≡ true
reached-in S vid s tunnel k addr is named family =
    ap (λ (o : Option Tunnel). reaches S.overlay vid (unwrap_or o Vxlan) addr) named
    ∙ and_from (is_some (tunnel_at S.overlay vid k)) (has_family (own S.overlay.underlay) addr) (ap is_some ((is-of S vid s is).tunnels k) ∙ kind-there s.tunnels tunnel k named) family

added-reached : (S : Settings) (vid : ℕ) (addr : Addr) (tunnel : Option Tunnel) (s : SegmentSettings) → segment_at S vid ≡ Some s → refused S (AddFlood vid addr tunnel) ≡ None → list_all (reached S.overlay vid) s.flood ≡ true
    → list_all (reached S.overlay vid) (s.flood ++ record { tunnel = kind_in s.tunnels tunnel; addr = addr } ∷ []) ≡ true
added-reached S vid addr tunnel s is none all =
    let t = at-tunnel (kind_named s.tunnels tunnel) _ (in-segment (segment_at S vid) _ s is none) in
    reached-added S.overlay vid s.flood (kind_in s.tunnels tunnel) addr all
    (reached-in S vid s tunnel t.0 addr is t.1 (family-added (own S.overlay.underlay) S.overlay.underlay.limits.flood s.flood t.0 addr (sym (no_fault _ t.2))))

fixed-reached : (S : Settings) (vid : ℕ) (s : SegmentSettings) (goal : Goal) (ports : ℕ) → segment_at S vid ≡ Some s → target_fault (own S.overlay.underlay) ports s.tunnels goal ≡ None → is_reached S.overlay vid (place_of s.tunnels goal) ≡ true
fixed-reached S vid s (target.Local port) ports is none = refl
fixed-reached S vid s (target.Remote addr tunnel) ports is none =
    let t = at-tunnel (kind_named s.tunnels tunnel) _ none in
    reached-in S vid s tunnel t.0 addr is t.1 (family-fixed (own S.overlay.underlay) addr (sym t.2))

not_refused : (b : Bool) (fault : ChangeFault) (o : Option ChangeFault) → cond b (Some fault) o ≡ None → o ≡ None
not_refused true fault o h = absurd cc
not_refused false fault o h = h

-- with another flood list
flooded : (O : Overlay) (vid : ℕ) (flood : Entries) → ((w : ℕ) → list_all (reached O w) (flood_at O w) ≡ true) → list_all (reached O vid) flood ≡ true → (w : ℕ) (o : Option Segment)
    → list_all (reached O w) (option_map_or (λ h. h.flood) (get (option_map_or (λ g. insert O.segments vid (record g { flood = flood })) o O.segments) w) []) ≡ true
flooded O vid flood all own w None = all w
flooded O vid flood all own w (Some g) =
    ap (λ (o : Option Segment). list_all (reached O w) (option_map_or (λ h. h.flood) o [])) (get-insert_at O.segments vid (record g { flood = flood }) w) ∙ by (w == vid) refl
  where
    by : (b : Bool) → (w == vid) ≡ b → list_all (reached O w) (option_map_or (λ h. h.flood) (cond b (Some (record g { flood = flood })) (get O.segments w)) []) ≡ true
    by true same = ap (λ (v : ℕ). list_all (reached O v) flood) (eqb-true w vid same) ∙ own
    by false other = all w

flood-of : (S : Settings) (vid : ℕ) (change : SegmentSettings → Entries) → ((w : ℕ) → list_all (reached S.overlay w) (flood_at S.overlay w) ≡ true) → (o : Option SegmentSettings) → ((s : SegmentSettings) → o ≡ Some s → list_all (reached S.overlay vid) (change s) ≡ true) → (w : ℕ)
    → list_all (reached S.overlay w) (flood_at (option_map_or (λ s. let new : Settings = record S { overlay = with_flood S.overlay vid (change s) } in new) o S).overlay w) ≡ true
flood-of S vid change all None own w = all w
flood-of S vid change all (Some s) own w = flooded S.overlay vid (change s) all (own s refl) w (under_at S.overlay vid)

own-flood : (S : Settings) (vid : ℕ) (s : SegmentSettings) → ((w : ℕ) → list_all (reached S.overlay w) (flood_at S.overlay w) ≡ true) → segment_at S vid ≡ Some s → list_all (reached S.overlay vid) s.flood ≡ true
own-flood S vid s all is = ap (list_all (reached S.overlay vid)) (sym (is-of S vid s is).flood) ∙ all vid

flood-accepted : (S : Settings) (c : Change) → moves (effect c) ≡ false → ((w : ℕ) → list_all (reached S.overlay w) (flood_at S.overlay w) ≡ true) → refused S c ≡ None → (w : ℕ) → list_all (reached S.overlay w) (flood_at (accepted S c).overlay w) ≡ true
flood-accepted S (AddFlood vid addr tunnel) stays all none w =
    flood-of S vid (λ s. s.flood ++ record { tunnel = kind_in s.tunnels tunnel; addr = addr } ∷ []) all (segment_at S vid) (λ s is. added-reached S vid addr tunnel s is none (own-flood S vid s all is)) w
flood-accepted S (RemoveFlood vid addr tunnel) stays all none w =
    flood-of S vid (λ s. without s.flood (kind_in s.tunnels tunnel) addr) all (segment_at S vid) (λ s is. reached-without S.overlay vid s.flood (kind_in s.tunnels tunnel) addr (own-flood S vid s all is)) w
flood-accepted S (AddSegment new) stays all none w = absurd (false≢true (sym stays))
flood-accepted S (RemoveSegment vid) stays all none w = absurd (false≢true (sym stays))
flood-accepted S c stays all none w = all w

emptied : (O : Overlay) (w : ℕ) (b : Bool) (m : Table) → AreReached O w m → AreReached O w (cond b empty m)
emptied O w true m h = empty-reached O w
emptied O w false m h = h

-- the table of a segment that it is about
entries-reached : (S : Settings) (w t : ℕ) (s : SegmentSettings) (c : Change) (m : Table) → segment_at S w ≡ Some s → is_about w c ≡ true → refused S c ≡ None → AreReached S.overlay w m → AreReached S.overlay w (entries_changed t s c m)
entries-reached S w t s (Fix vid mac goal) m is about none h =
    let here : segment_at S vid ≡ Some s = ap (segment_at S) (sym (eqb-true w vid about)) ∙ is in
    reached-fix S.overlay w s.limit (place_of s.tunnels goal) mac m
    (fixed-reached S w s goal _ is (not_refused (is_group_mac mac) _ _ (in-segment (segment_at S vid) _ s here none))) h
entries-reached S w t s (Unfix vid mac) m is about none h = reached-unfix S.overlay w mac m h
entries-reached S w t s (RemoveFlood vid addr tunnel) m is about none h = reached-kept S.overlay w _ m h
entries-reached S w t s (SetAgeing vid seconds) m is about none h = reached-kept S.overlay w _ m h
entries-reached S w t s (SetMember vid port None) m is about none h = reached-kept S.overlay w _ m h
entries-reached S w t s (SetMember vid port (Some egress)) m is about none h = h
entries-reached S w t s (PortDown port) m is about none h = reached-kept S.overlay w _ m h
entries-reached S w t s (Flush vid) m is about none h = reached-kept S.overlay w _ m h
entries-reached S w t s (AddFlood vid addr tunnel) m is about none h = h
entries-reached S w t s (SetLearning vid on) m is about none h = h
entries-reached S w t s (PortUp port) m is about none h = h
entries-reached S w t s (AddSegment new) m is about none h = h
entries-reached S w t s (RemoveSegment vid) m is about none h = empty-reached S.overlay w
entries-reached S w t s (SetLimit vid limit) m is about none h = emptied S.overlay w (nat_lt limit (len m)) m h

table-reached : (S : Settings) (w t : ℕ) (c : Change) (o : Option SegmentSettings) (m : Table) → segment_at S w ≡ o → refused S c ≡ None → AreReached S.overlay w m → AreReached S.overlay w (table_changed t c o w m)
table-reached S w t c None m is none h = emptied S.overlay w (is_about w c) m h
table-reached S w t c (Some s) m is none h = by (is_about w c) refl
  where
    by : (b : Bool) → is_about w c ≡ b → AreReached S.overlay w (cond b (entries_changed t s c m) m)
    by true about = entries-reached S w t s c m is about none h
    by false other = h

Knows-kept : (t : ℕ) (c : Change) (B : Bridges) → moves (effect c) ≡ false → refused B.settings c ≡ None → Knows B → Knows (accepted_state t c B)
Knows-kept t c B stays none k =
    let S = B.settings in
    let keeps = Keeps-accepted S c stays in
    record {
      flood = λ w. all-kept (accepted S c) S keeps w (flood_at (accepted S c).overlay w) ∙ flood-accepted S c stays k.flood none w;
      tables = λ w mac.
          if-kept (accepted S c) S keeps w (stands mac (table_changed t c (segment_at S w) w (B.tables w)))
          ∙ table-reached S w t c (segment_at S w) (B.tables w) refl none (k.tables w) mac;
    }

-- ---- a segment comes or goes

-- a table that the change isn't about
same-table : (t : ℕ) (c : Change) (o : Option SegmentSettings) (w : ℕ) (m : Table) → is_about w c ≡ false → table_changed t c o w m ≡ m
same-table t c None w m other = ap (λ (b : Bool). cond b empty m) other
same-table t c (Some s) w m other = ap (λ (b : Bool). cond b (entries_changed t s c m) m) other

-- the table of a segment that comes, and of one that goes
begun : (t : ℕ) (new : NewSegment) (o : Option SegmentSettings) (w : ℕ) (m : Table) → o ≡ None → (w == new.vid) ≡ true → table_changed t (AddSegment new) o w m ≡ empty
begun t new None w m none own = ap (λ (b : Bool). cond b empty m) own
begun t new (Some s) w m none own = absurd cc

ended : (t vid : ℕ) (o : Option SegmentSettings) (w : ℕ) (m : Table) → (w == vid) ≡ true → table_changed t (RemoveSegment vid) o w m ≡ empty
ended t vid None w m own = ap (λ (b : Bool). cond b empty m) own
ended t vid (Some s) w m own = ap (λ (b : Bool). cond b empty m) own

no-flood : (O : Overlay) (w : ℕ) (o : Option Segment) → option_map_or (λ g. g.flood) o [] ≡ [] → list_all (reached O w) (option_map_or (λ g. g.flood) o []) ≡ true
no-flood O w o none = ap (list_all (reached O w)) none

Knows-comes : (t : ℕ) (new : NewSegment) (B : Bridges) → refused B.settings (AddSegment new) ≡ None → Knows B → Knows (accepted_state t (AddSegment new) B)
Knows-comes t new B none k = record {
  flood = λ w. floods w (w == new.vid) refl;
  tables = λ w. tables w (w == new.vid) refl;
}
  where
    under : (w : ℕ) → under_at (with_segment B.settings new).overlay w ≡ cond (w == new.vid) (Some (segment_of (new_tunnels new))) (under_at B.settings.overlay w)
    under w = get-insert_at B.settings.overlay.segments new.vid (segment_of (new_tunnels new)) w

    other_under : (w : ℕ) → (w == new.vid) ≡ false → under_at (with_segment B.settings new).overlay w ≡ under_at B.settings.overlay w
    other_under w other = under w ∙ ap (λ (b : Bool). cond b (Some (segment_of (new_tunnels new))) (under_at B.settings.overlay w)) other

    floods : (w : ℕ) (b : Bool) → (w == new.vid) ≡ b → list_all (reached (with_segment B.settings new).overlay w) (flood_at (with_segment B.settings new).overlay w) ≡ true
    floods w true own = no-flood (with_segment B.settings new).overlay w (under_at (with_segment B.settings new).overlay w)
        (ap (λ (o : Option Segment). option_map_or (λ g. g.flood) o []) (under w ∙ ap (λ (b : Bool). cond b (Some (segment_of (new_tunnels new))) (under_at B.settings.overlay w)) own))
    floods w false other = flood_same B.settings.overlay (with_segment B.settings new).overlay w refl (other_under w other) (k.flood w)

    tables : (w : ℕ) (b : Bool) → (w == new.vid) ≡ b → AreReached (with_segment B.settings new).overlay w (table_changed t (AddSegment new) (segment_at B.settings w) w (B.tables w))
    tables w true own = subst (λ (m : Table). AreReached (with_segment B.settings new).overlay w m)
        (sym (begun t new (segment_at B.settings w) w (B.tables w) (ap (segment_at B.settings) (eqb-true w new.vid own) ∙ new-absent B.settings new none) own))
        (empty-reached (with_segment B.settings new).overlay w)
    tables w false other = subst (λ (m : Table). AreReached (with_segment B.settings new).overlay w m)
        (sym (same-table t (AddSegment new) (segment_at B.settings w) w (B.tables w) other))
        (table_same B.settings.overlay (with_segment B.settings new).overlay w refl (other_under w other) (B.tables w) (k.tables w))

Knows-goes : (t vid : ℕ) (B : Bridges) → Knows B → Knows (accepted_state t (RemoveSegment vid) B)
Knows-goes t vid B k = record {
  flood = λ w. floods w (w == vid) refl;
  tables = λ w. tables w (w == vid) refl;
}
  where
    under : (w : ℕ) → under_at (without_segment B.settings vid).overlay w ≡ cond (w == vid) None (under_at B.settings.overlay w)
    under w = get-remove_at B.settings.overlay.segments vid w

    other_under : (w : ℕ) → (w == vid) ≡ false → under_at (without_segment B.settings vid).overlay w ≡ under_at B.settings.overlay w
    other_under w other = under w ∙ ap (λ (b : Bool). cond b None (under_at B.settings.overlay w)) other

    floods : (w : ℕ) (b : Bool) → (w == vid) ≡ b → list_all (reached (without_segment B.settings vid).overlay w) (flood_at (without_segment B.settings vid).overlay w) ≡ true
    floods w true own = no-flood (without_segment B.settings vid).overlay w (under_at (without_segment B.settings vid).overlay w)
        (ap (λ (o : Option Segment). option_map_or (λ g. g.flood) o []) (under w ∙ ap (λ (b : Bool). cond b None (under_at B.settings.overlay w)) own))
    floods w false other = flood_same B.settings.overlay (without_segment B.settings vid).overlay w refl (other_under w other) (k.flood w)

    tables : (w : ℕ) (b : Bool) → (w == vid) ≡ b → AreReached (without_segment B.settings vid).overlay w (table_changed t (RemoveSegment vid) (segment_at B.settings w) w (B.tables w))
    tables w true own = subst (λ (m : Table). AreReached (without_segment B.settings vid).overlay w m)
        (sym (ended t vid (segment_at B.settings w) w (B.tables w) own)) (empty-reached (without_segment B.settings vid).overlay w)
    tables w false other = subst (λ (m : Table). AreReached (without_segment B.settings vid).overlay w m)
        (sym (same-table t (RemoveSegment vid) (segment_at B.settings w) w (B.tables w) other))
        (table_same B.settings.overlay (without_segment B.settings vid).overlay w refl (other_under w other) (B.tables w) (k.tables w))

Knows-moved : (t : ℕ) (c : Change) (B : Bridges) → moves (effect c) ≡ true → refused B.settings c ≡ None → Knows B → Knows (accepted_state t c B)
Knows-moved t (AddSegment new) B moved none k = Knows-comes t new B none k
Knows-moved t (RemoveSegment vid) B moved none k = Knows-goes t vid B k
Knows-moved t c B moved none k = absurd (false≢true moved)

-- ---- any change

Knows-accepted : (t : ℕ) (c : Change) (B : Bridges) → refused B.settings c ≡ None → Knows B → Knows (accepted_state t c B)
Knows-accepted t c B none k = by (moves (effect c)) refl
  where
    by : (b : Bool) → moves (effect c) ≡ b → Knows (accepted_state t c B)
    by true moved = Knows-moved t c B moved none k
    by false stays = Knows-kept t c B stays none k

pub Knows-change : (t : ℕ) (c : Change) (B : Bridges) → Knows B → Knows (after_change t c B)
Knows-change t c B k = by (refused B.settings c) refl
  where
    by : (o : Option ChangeFault) → refused B.settings c ≡ o → Knows (cond (is_none o) (accepted_state t c B) B)
    by None none = Knows-accepted t c B none k
    by (Some fault) some = k

-- the underlay stays, and each VNI has 24 bits
pub Stays-change : (t : ℕ) (c : Change) (B : Bridges) → Stays (after_change t c B).settings B.settings
Stays-change t c B = by (refused B.settings c) refl
  where
    by : (o : Option ChangeFault) → refused B.settings c ≡ o → Stays (cond (is_none o) (accepted_state t c B) B).settings B.settings
    by None none = Stays-accepted B.settings c none
    by (Some fault) some = Stays-itself B.settings

-- ---- an event

pub came-reached : (O : Overlay) (original : ℕ) (b : List ℕ) (x : Arrival) → ((vid : ℕ) → list_all (reached O vid) (flood_at O vid) ≡ true) → came_by O original b ≡ Ok x → is_reached O x.vid x.from ≡ true
came-reached O original b x all h =
    let y = came_by-arrived O original b x h in
    ap (λ (from : Place). is_reached O x.vid from) y.2.from ∙ ap (λ (vid : ℕ). reaches O vid y.0.from.0 y.0.from.1) y.2.vid ∙ (arrived-reached O b y.0 all y.1).0

Knows-came : (t : ℕ) (B : Bridges) (r : Result Arrival Refused) → ((x : Arrival) → r ≡ Ok x → is_reached B.settings.overlay x.vid x.from ≡ true) → Knows B → Knows (after_came t B r)
Knows-came t B (Err refused) own k = k
Knows-came t B (Ok x) own k = Knows-frame t x.vid x.from x.frame B (own x refl) k

Knows-input : (t : ℕ) (B : Bridges) (i : Input) → Knows B → Knows (bridges_after t B i)
Knows-input t B (FrameAt port original b) k =
    Knows-came t B (came_at B.settings.ports B.settings.overlay port original b)
    (λ x h. ap (λ (from : Place). is_reached B.settings.overlay x.vid from) (came_at-entered B.settings.ports B.settings.overlay port original b x h).from) k
Knows-input t B (Packet original b) k = Knows-came t B (came_by B.settings.overlay original b) (λ x h. came-reached B.settings.overlay original b x k.flood h) k
Knows-input t B (Asks c) k = Knows-change t c B k

Stays-came : (t : ℕ) (B : Bridges) (r : Result Arrival Refused) → Stays (after_came t B r).settings B.settings
Stays-came t B (Err refused) = Stays-itself B.settings
Stays-came t B (Ok x) = Stays-itself B.settings

Stays-input : (t : ℕ) (B : Bridges) (i : Input) → Stays (bridges_after t B i).settings B.settings
Stays-input t B (FrameAt port original b) = Stays-came t B (came_at B.settings.ports B.settings.overlay port original b)
Stays-input t B (Packet original b) = Stays-came t B (came_by B.settings.overlay original b)
Stays-input t B (Asks c) = Stays-change t c B

pub Knows-after : (s : State) (e : Event) → Knows s.bridges → Knows (after s e).bridges
Knows-after s e k = Knows-aged e.at (bridges_after e.at (aged e.at s.bridges) e.input) (Knows-input e.at (aged e.at s.bridges) e.input (Knows-aged e.at s.bridges k))

pub Stays-after : (s : State) (e : Event) → Stays (after s e).bridges.settings s.bridges.settings
Stays-after s e = Stays-input e.at (aged e.at s.bridges) e.input

pub Knows-run : (s : State) (es : List Event) → Knows s.bridges → Knows (state_after s es).bridges
Knows-run s [] k = k
Knows-run s (e ∷ es) k = Knows-run (after s e) es (Knows-after s e k)
