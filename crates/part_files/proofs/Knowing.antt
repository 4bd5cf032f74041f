-- What an endpoint's settings and tables keep to, whatever comes.
use Rattle.std.proofs.Common.{◌≡◌, ◌∙◌, refl, sym, ap, subst, ℕ, ◌-◌, ◌==◌, ◌<◌, arith, Bool, true, false, cond, not, [], ◌∷◌, ◌++◌, length, length-append, filter, Option, Some, None, Result, Ok, Err}
use Rattle.std.specs.Prelude.{is_none, min, nat_lt}
use Rattle.std.specs.Option.{option_map, option_map_or}
use Rattle.std.specs.FinMap.{empty, get, insert, len, remove}
use Rattle.std.proofs.lemmas.Bool.{leb-false}
use Rattle.std.proofs.lemmas.List.{length-set}
use Rattle.std.proofs.lemmas.List.Sums.{count_by-le-length, length-filter}
use Rattle.std.proofs.Math.Nat.{min-le_right}
use Rattle.timeline.proofs.KnownEvents.{all-append}
use Rattle.wire.specs.Frame.{Frame}
use Rattle.wire.specs.declared.ether.reason.Refused.{Refused}
use Rattle.wire.proofs.FirstLemmas.{NothingHolds-from}
use Rattle.wire.specs.Addr.{IsAddr}
use Rattle.wire.specs.declared.ip_udp.addr.Addr.{Addr}
use Rattle.wire.specs.declared.ip_udp.addr.Tunnel.{Tunnel}
use Rattle.overlay.specs.Flood.{Entries, add_faults, is_entry}
use Rattle.overlay.specs.declared.flood.fault.FloodFault.{FloodFault}
use Rattle.overlay.specs.declared.flood.remote.Remote.{Remote as Endpoint}
use Rattle.filter_db.specs.Table.{Table, is_live, nanoseconds, learn}
use Rattle.filter_db.specs.declared.place.Place.{Place}
use Rattle.overlay.proofs.PlacesLemmas.{get-insert_at, get-remove_at}
use Rattle.overlay.specs.Overlay as overlay
use Rattle.overlay.specs.Overlay.{flood_at, flood_in, segment_of, with_flood}
use Rattle.overlay.specs.UnderlaySettings.{own}
use Rattle.overlay.specs.declared.underlay.segment.Segment.{Segment}
use Rattle.overlay.specs.declared.underlay.settings.Underlay.{Underlay}
use Rattle.overlay.specs.declared.settings.change.Change.{Change}
use Rattle.overlay.specs.declared.settings.change.Change.TheVariants.{AddFlood, RemoveFlood, Fix, Unfix, SetAgeing, SetLearning, SetMember, PortUp, PortDown, Flush, AddSegment, RemoveSegment, SetLimit}
use Rattle.overlay.specs.declared.settings.change.Target.{Target}
use Rattle.overlay.specs.declared.settings.change.Target.TheVariants as target
use Rattle.endpoint_core.specs.declared.state.fault.ChangeFault.{ChangeFault}
use Rattle.endpoint_core.specs.Change.{at_tunnel, entries_changed, in_segment, is_about, kind_in, place_of, refused}
use Rattle.endpoint_core.specs.Effect.{Comes, Effect, Goes, ToBridge, ToFlood, ToLimit, ToMembers, ToNothing, ToPort, applied, effect, new_tunnels}
use Rattle.endpoint_core.specs.Fault.{of_flood}
use Rattle.endpoint_core.specs.Settings.{BridgeSettings, SegmentSettings, Settings, kind_named, segment_at}
use Rattle.endpoint_core.specs.State.{State as Bridges, accepted_state, after_change, aged, live_in, table_changed}
use Rattle.endpoint_core.specs.StateStep.{after_frame, table_learned}
use Rattle.endpoint_core.specs.Arrival.{Arrival}
use Rattle.endpoint_core.specs.Step.{after_came}
use Rattle.mesh_delivery.proofs.Keeping.{is-of}
use Rattle.noninterference.proofs.Lists.{all-filter}
use Rattle.part_files.proofs.Remotes.{HasAddr, IsFar, IsFlood, IsTarget}
use Rattle.part_files.proofs.Stations.{Stand, stand-either, stand-empty, stand-fix, stand-kept, stand-learn, stand-unfix}

-- ---- flood lists

flood-left : (p : Endpoint → Bool) (flood : Entries) → IsFlood flood → IsFlood (filter p flood)
flood-left p flood is =
    (omega (arith, is.0, length-filter p flood, count_by-le-length p flood), all-filter (λ (r : Endpoint). IsAddr r.addr) p flood is.1)

flood-more : (flood : Entries) (r : Endpoint) → IsFlood flood → length flood < 512 → IsAddr r.addr → IsFlood (flood ++ r ∷ [])
flood-more flood r is room own = (omega (arith, room, length-append flood (r ∷ [])), all-append (λ (x : Endpoint). IsAddr x.addr) flood (r ∷ []) is.1 (own, tt))

-- the list of a segment, where there is one
abbrev pub IsFloodOf : Option Segment → Type 0
IsFloodOf o = IsFlood (option_map_or (λ (g : Segment). g.flood) o [])

pub no-flood : IsFlood []
no-flood = (omega arith, tt)

-- ---- settings

-- so many ports, this underlay, and such flood lists
pub record Keeps (n : ℕ) (U : Underlay) (S : Settings) : Type 0 where
  pub ports : length S.ports.ports ≡ n
  pub underlay : S.overlay.underlay ≡ U
  pub flood : (vid : ℕ) → IsFlood (flood_at S.overlay vid)

pub put-in : (segments : overlay.Segments) (vid : ℕ) (g : Segment) → IsFlood g.flood → ((w : ℕ) → IsFlood (flood_in segments w)) → (w : ℕ) → IsFlood (flood_in (insert segments vid g) w)
put-in segments vid g own all w = subst IsFloodOf (sym (get-insert_at segments vid g w)) (by (w == vid))
  where
    by : (b : Bool) → IsFloodOf (cond b (Some g) (get segments w))
    by true = own
    by false = all w

taken-out : (segments : overlay.Segments) (vid : ℕ) → ((w : ℕ) → IsFlood (flood_in segments w)) → (w : ℕ) → IsFlood (flood_in (remove segments vid) w)
taken-out segments vid all w = subst IsFloodOf (sym (get-remove_at segments vid w)) (by (w == vid))
  where
    by : (b : Bool) → IsFloodOf (cond b None (get segments w))
    by true = no-flood
    by false = all w

flooded : (segments : overlay.Segments) (vid : ℕ) (flood : Entries) → IsFlood flood → ((w : ℕ) → IsFlood (flood_in segments w)) → (o : Option Segment) → (w : ℕ)
    → IsFlood (flood_in (option_map_or (λ (g : Segment). insert segments vid (let h : Segment = record g { flood = flood } in h)) o segments) w)
flooded segments vid flood own all None w = all w
flooded segments vid flood own all (Some g) w = put-in segments vid (record g { flood = flood }) own all w

-- what it makes of a flood list is one
abbrev MakesFlood : Effect → Settings → Type 0
MakesFlood (ToFlood vid change) S = (s : SegmentSettings) → segment_at S vid ≡ Some s → IsFlood (change s)
MakesFlood e S = Unit {0}

module _ (n : ℕ) (U : Underlay) where
  keeps-applied : (e : Effect) (S : Settings) → MakesFlood e S → Keeps n U S → Keeps n U (applied e S)
  keeps-applied (ToFlood vid change) S makes k = by (segment_at S vid) makes
    where
      by : (o : Option SegmentSettings) → ((s : SegmentSettings) → o ≡ Some s → IsFlood (change s)) → Keeps n U (option_map_or (λ (s : SegmentSettings). let left : Settings = record S { overlay = with_flood S.overlay vid (change s) } in left) o S)
      by None own = k
      by (Some s) own = record {
        ports = k.ports;
        underlay = k.underlay;
        flood = flooded S.overlay.segments vid (change s) (own s refl) k.flood (get S.overlay.segments vid);
      }
  keeps-applied (ToBridge vid change) S makes k = record { ports = k.ports; underlay = k.underlay; flood = k.flood }
  keeps-applied (ToLimit vid limit) S makes k = record { ports = k.ports; underlay = k.underlay; flood = k.flood }
  keeps-applied (ToMembers vid port egress) S makes k = record { ports = k.ports; underlay = k.underlay; flood = k.flood }
  keeps-applied (ToPort port up) S makes k = record { ports = length-set S.ports.ports (port - 1) _ ∙ k.ports; underlay = k.underlay; flood = k.flood }
  keeps-applied (Comes new) S makes k = record { ports = k.ports; underlay = k.underlay; flood = put-in S.overlay.segments new.vid (segment_of (new_tunnels new)) no-flood k.flood }
  keeps-applied (Goes vid) S makes k = record { ports = k.ports; underlay = k.underlay; flood = taken-out S.overlay.segments vid k.flood }
  keeps-applied ToNothing S makes k = k

  pub own-flood : (S : Settings) (vid : ℕ) (s : SegmentSettings) → Keeps n U S → segment_at S vid ≡ Some s → IsFlood s.flood
  own-flood S vid s k is = subst IsFlood (is-of S vid s is).flood (k.flood vid)

  in-segment : (o : Option SegmentSettings) (next : SegmentSettings → Option ChangeFault) (s : SegmentSettings) → o ≡ Some s → in_segment o next ≡ None → next s ≡ None
  in-segment o next s is h = sym (ap (λ (p : Option SegmentSettings). in_segment p next) is) ∙ h

  at-tunnel : (o : Option Tunnel) (next : Tunnel → Option ChangeFault) → at_tunnel o next ≡ None → (k : Tunnel) × (next k ≡ None)
  at-tunnel None next h = absurd cc
  at-tunnel (Some k) next h = (k, h)

  no-fault : (o : Option FloodFault) → option_map of_flood o ≡ None → o ≡ None
  no-fault None h = refl
  no-fault (Some fault) h = absurd cc

  -- there is room where an entry is added
  has-room : (S : Settings) (vid : ℕ) (addr : Addr) (tunnel : Option Tunnel) (s : SegmentSettings) → segment_at S vid ≡ Some s → refused S (AddFlood vid addr tunnel) ≡ None → length s.flood < 512
  has-room S vid addr tunnel s is none =
      let t = at-tunnel (kind_named s.tunnels tunnel) _ (in-segment (segment_at S vid) _ s is none) in
      let most = S.overlay.underlay.limits.flood in
      let held = NothingHolds-from (add_faults (own S.overlay.underlay) most s.flood t.0 addr) (no-fault _ t.1) in
      omega (arith, leb-false (min most 512) (length s.flood) held.1.1.1.1.0, min-le_right most 512)

  makes-flood : (S : Settings) (c : Change) → HasAddr c → refused S c ≡ None → Keeps n U S → MakesFlood (effect c) S
  makes-flood S (AddFlood vid addr tunnel) named none k =
      λ s is. flood-more s.flood (record { tunnel = kind_in s.tunnels tunnel; addr = addr }) (own-flood S vid s k is) (has-room S vid addr tunnel s is none) named
  makes-flood S (RemoveFlood vid addr tunnel) named none k =
      λ s is. flood-left (λ entry. not (is_entry (kind_in s.tunnels tunnel) addr entry)) s.flood (own-flood S vid s k is)
  makes-flood S c named none k = tt

  -- ---- tables

  target-far : (s : SegmentSettings) (goal : Target) → IsTarget goal → IsFar (place_of s.tunnels goal)
  target-far s (target.Local port) own = tt
  target-far s (target.Remote addr tunnel) own = own

  entries-far : (t : ℕ) (s : SegmentSettings) (c : Change) (m : Table) → HasAddr c → Stand IsFar m → Stand IsFar (entries_changed t s c m)
  entries-far t s (Fix vid mac goal) m own h = stand-fix IsFar s.limit (place_of s.tunnels goal) mac m (target-far s goal own) h
  entries-far t s (Unfix vid mac) m own h = stand-unfix IsFar mac m h
  entries-far t s (RemoveFlood vid addr tunnel) m own h = stand-kept IsFar _ m h
  entries-far t s (SetAgeing vid seconds) m own h = stand-kept IsFar _ m h
  entries-far t s (SetMember vid port None) m own h = stand-kept IsFar _ m h
  entries-far t s (SetMember vid port (Some egress)) m own h = h
  entries-far t s (PortDown port) m own h = stand-kept IsFar _ m h
  entries-far t s (Flush vid) m own h = stand-kept IsFar _ m h
  entries-far t s (AddFlood vid addr tunnel) m own h = h
  entries-far t s (SetLearning vid on) m own h = h
  entries-far t s (PortUp port) m own h = h
  entries-far t s (AddSegment new) m own h = h
  entries-far t s (RemoveSegment vid) m own h = stand-empty IsFar
  entries-far t s (SetLimit vid limit) m own h = stand-either IsFar (nat_lt limit (len m)) empty m (stand-empty IsFar) h

  table-far : (t : ℕ) (c : Change) (o : Option SegmentSettings) (w : ℕ) (m : Table) → HasAddr c → Stand IsFar m → Stand IsFar (table_changed t c o w m)
  table-far t c None w m own h = stand-either IsFar (is_about w c) empty m (stand-empty IsFar) h
  table-far t c (Some s) w m own h = stand-either IsFar (is_about w c) (entries_changed t s c m) m (entries-far t s c m own h) h

  -- ---- both

  -- the settings keep to that, and all stations stand at such places
  pub record Knows (B : Bridges) : Type 0 where
    pub settings : Keeps n U B.settings
    pub tables : (vid : ℕ) → Stand IsFar (B.tables vid)

  live-far : (o : Option BridgeSettings) (t : ℕ) (m : Table) → Stand IsFar m → Stand IsFar (live_in o t m)
  live-far None t m h = stand-empty IsFar
  live-far (Some bridge) t m h = stand-kept IsFar (is_live (nanoseconds bridge.ageing) t) m h

  pub knows-aged : (t : ℕ) (B : Bridges) → Knows B → Knows (aged t B)
  knows-aged t B k = record { settings = k.settings; tables = λ vid. live-far (B.settings.bridges vid) t (B.tables vid) (k.tables vid) }

  learned-far : (t : ℕ) (from : Place) (f : Frame) (o : Option SegmentSettings) (m : Table) → IsFar from → Stand IsFar m → Stand IsFar (table_learned t from f o m)
  learned-far t from f None m own h = h
  learned-far t from f (Some s) m own h = stand-either IsFar s.learning (learn s.limit t from f.src m) m (stand-learn IsFar s.limit t from f.src m own h) h

  pub knows-frame : (t vid : ℕ) (from : Place) (f : Frame) (B : Bridges) → IsFar from → Knows B → Knows (after_frame t vid from f B)
  knows-frame t vid from f B own k = record { settings = k.settings; tables = λ w. by w (w == vid) }
    where
      by : (w : ℕ) (b : Bool) → Stand IsFar (cond b (table_learned t from f (segment_at B.settings w) (B.tables w)) (B.tables w))
      by w true = learned-far t from f (segment_at B.settings w) (B.tables w) own (k.tables w)
      by w false = k.tables w

  pub knows-came : (t : ℕ) (B : Bridges) (r : Result Arrival Refused) → ((x : Arrival) → r ≡ Ok x → IsFar x.from) → Knows B → Knows (after_came t B r)
  knows-came t B (Err refused) own k = k
  knows-came t B (Ok x) own k = knows-frame t x.vid x.from x.frame B (own x refl) k

  pub knows-change : (t : ℕ) (c : Change) (B : Bridges) → HasAddr c → Knows B → Knows (after_change t c B)
  knows-change t c B own k = by (refused B.settings c) refl
    where
      by : (o : Option ChangeFault) → refused B.settings c ≡ o → Knows (cond (is_none o) (accepted_state t c B) B)
      by (Some fault) some = k
      by None none = record {
        settings = keeps-applied (effect c) B.settings (makes-flood B.settings c own none k.settings) k.settings;
        tables = λ w. table-far t c (segment_at B.settings w) w (B.tables w) own (k.tables w);
      }
