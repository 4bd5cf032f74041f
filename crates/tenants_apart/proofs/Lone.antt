-- A segment alone wants no room where it wants none among others.
use Rattle.std.proofs.Common.{◌≡◌, ◌∙◌, refl, sym, ap, subst, ℕ, ◌+◌, ◌≤◌, ◌<◌, arith, ◌==◌, Bool, true, false, cond, not, nat_lt, ◌||◌, ◌&&◌, List, [], ◌∷◌, ◌++◌, Option, Some, None}
use Rattle.std.specs.Prelude.{is_none, is_some}
use Rattle.std.specs.Option.{option_map, option_map_or}
use Rattle.std.specs.Cmp.{nat_cmp_total}
use Rattle.std.specs.FinMap.{empty, entries, entries_sorted, get-entries, get-empty, get}
use Rattle.std.specs.Ordering.{nat_cmp}
use Rattle.std.proofs.lemmas.Bool.{false≢true, eqb-true, ltb-true, ltb-false, lt-ltb, le-ltb, and_parts, or_parts, not-true, not-false}
use Rattle.std.proofs.lemmas.List.Sums.{sum_by-le-sum_by}
use Rattle.std.proofs.lemmas.Option.{none-some, same_Some}
use Rattle.wire.specs.First.{first}
use Rattle.wire.proofs.FirstLemmas.{NothingHolds-from}
use Rattle.wire.specs.declared.ip_udp.addr.Tunnel.{Tunnel}
use Rattle.filter_db.specs.Segment.{Segment as TableSegment}
use Rattle.filter_db.specs.Standing.{limit_in, numbers_of_12_bits, sum_of_limits, segment_count}
use Rattle.overlay.proofs.PlacesLemmas.{get-insert_at}
use Rattle.overlay.specs.Overlay.{segment_at as overlay_segment, segment_by, has_tunnel, taken, are_free, with_flood}
use Rattle.overlay.specs.declared.underlay.segment.Segment.{Segment}
use Rattle.overlay.specs.declared.underlay.settings.Underlay.{Underlay}
use Rattle.overlay.specs.declared.underlay.tunnels.SegmentTunnel.{SegmentTunnel}
use Rattle.overlay.proofs.CountLemmas.{found_where, none_where}
use Rattle.overlay.specs.declared.settings.change.Change.{Change}
use Rattle.overlay.specs.declared.settings.change.Change.TheVariants.{AddFlood, RemoveFlood, Fix, Unfix, SetAgeing, SetLearning, SetMember, PortUp, PortDown, Flush, AddSegment, RemoveSegment, SetLimit}
use Rattle.overlay.specs.declared.settings.change.NewSegment.{NewSegment}
use Rattle.endpoint_core.specs.declared.state.fault.ChangeFault.{ChangeFault}
use Rattle.endpoint_core.specs.declared.state.fault.ChangeFault.TheVariants.{OutOfRange, SegmentThere, SegmentsFull, PoolFull}
use Rattle.endpoint_core.specs.Settings.{Settings, BridgeSettings, SegmentSettings, segment_at, tables_asked}
use Rattle.endpoint_core.specs.Effect.{Effect, ToFlood, effect, applied}
use Rattle.endpoint_core.specs.Change.{named, is_about, in_segment, is_limit, is_ageing, are_vnis, is_taken, is_too_much, refused, accepted, changed}
use Rattle.endpoint_core.specs.Event.{Input, FrameAt, Packet, Asks, Event}
use Rattle.endpoint_core.specs.Run.{settings_after_input}
use Rattle.tenants_apart.specs.Own.{everything, is_needed, Part, part_of, names_or_concerns, own_events, takes_room, asks_room, room_reply, room_replies, wants_room, lacks_room, HasRoom}
use Rattle.tenants_apart.specs.Single.{just, single}
use Rattle.tenants_apart.specs.Vnis.{AreVnisApart}
use Rattle.tenants_apart.proofs.Changing.{own-about, changed-other}
use Rattle.tenants_apart.proofs.Enough.{within}
use Rattle.tenants_apart.proofs.Refusing.{whole_of, part-named}
use Rattle.tenants_apart.proofs.Room.{but-left, but-right, from-wants, about-asked, own-asked, none-wants, refused-calm, allowed-needed, part-kept, part-left}
use Rattle.tenants_apart.proofs.Running.{room-none}
use Rattle.tenants_apart.proofs.Single.{names-same, part-single, apart-single}
use Rattle.tenants_apart.proofs.Stepping.{AreRoomAlike}
use Rattle.tenants_apart.proofs.Vnis.{apart-input}

-- ---- settings with no other segment

-- nothing stands at another VID
pub record IsLone (vid : ℕ) (S : Settings) : Type 0 where
  pub bridge : (w : ℕ) → (w == vid) ≡ false → S.bridges w ≡ None
  pub tunnels : (w : ℕ) → (w == vid) ≡ false → overlay_segment S.overlay w ≡ None

just-other : {X : Type 0} (vid : ℕ) (o : Option X) (w : ℕ) → (w == vid) ≡ false → get (just vid o) w ≡ None
just-other {X = X} vid None w other = get-empty {X = X} nat_cmp w
just-other {X = X} vid (Some x) w other = get-insert_at empty vid x w ∙ ap (λ (b : Bool). cond b (Some x) (get (empty {X = X} {R = nat_cmp}) w)) other ∙ get-empty {X = X} nat_cmp w

lone-single : (vid : ℕ) (S : Settings) → IsLone vid (single vid S)
lone-single vid S = record {
  bridge = λ w other. ap (λ (b : Bool). cond b (S.bridges vid) None) other;
  tunnels = λ w other. just-other vid (overlay_segment S.overlay vid) w other;
}

-- ---- limits and counts

module _ (vid : ℕ) (S T : Settings) (h : part_of vid everything S ≡ part_of vid everything T) (lone : IsLone vid T) where
  bridges-same : (w : ℕ) → (w == vid) ≡ true → S.bridges w ≡ T.bridges w
  bridges-same w same = ap S.bridges (eqb-true w vid same) ∙ ap (λ (p : Part). p.bridge) h ∙ sym (ap T.bridges (eqb-true w vid same))

  abbrev table_of : Option BridgeSettings → Option TableSegment
  table_of o = option_map (λ b. let s : TableSegment = record { limit = b.limit; ageing = b.ageing; entries = empty } in s) o

  -- what is counted of a bridge, and nothing where there is none
  counted-less : (f : Option TableSegment → ℕ) → f None ≡ 0 → (w : ℕ) → f (table_of (T.bridges w)) ≤ f (table_of (S.bridges w))
  counted-less f none w = by (w == vid) refl
    where
      by : (b : Bool) → (w == vid) ≡ b → f (table_of (T.bridges w)) ≤ f (table_of (S.bridges w))
      by true same = let here : f (table_of (S.bridges w)) ≡ f (table_of (T.bridges w)) = ap (λ o. f (table_of o)) (bridges-same w same) in omega (arith, here)
      by false other = let nothing : f (table_of (T.bridges w)) ≡ 0 = ap (λ o. f (table_of o)) (lone.bridge w other) ∙ none in omega (arith, nothing)

  limits-less : sum_of_limits (tables_asked T) ≤ sum_of_limits (tables_asked S)
  unfolding sum_of_limits
  limits-less = sum_by-le-sum_by (λ w. limit_in (table_of (T.bridges w))) (λ w. limit_in (table_of (S.bridges w))) numbers_of_12_bits (counted-less limit_in refl)

  count-less : segment_count (tables_asked T) ≤ segment_count (tables_asked S)
  unfolding segment_count
  count-less = sum_by-le-sum_by (λ w. cond (is_some (table_of (T.bridges w))) 1 0) (λ w. cond (is_some (table_of (S.bridges w))) 1 0) numbers_of_12_bits (counted-less (λ o. cond (is_some o) 1 0) refl)

  -- ---- VNIs

  -- what stands here stands among the others
  stands-there : (w : ℕ) (g : Segment) → overlay_segment T.overlay w ≡ Some g → overlay_segment S.overlay w ≡ Some g
  stands-there w g there = by (w == vid) refl
    where
      by : (b : Bool) → (w == vid) ≡ b → overlay_segment S.overlay w ≡ Some g
      by true same = ap (overlay_segment S.overlay) (eqb-true w vid same) ∙ ap (λ (p : Part). p.tunnels) h ∙ sym (ap (overlay_segment T.overlay) (eqb-true w vid same)) ∙ there
      by false other = absurd (none-some g (sym (lone.tunnels w other) ∙ there))

  not_taken : (kind : Tunnel) (vni : ℕ) → taken S.overlay kind vni ≡ false → taken T.overlay kind vni ≡ false
  not_taken kind vni free = by (segment_by T.overlay kind vni) (segment_by S.overlay kind vni) refl refl free
    where
      by : (o p : Option (ℕ × Segment)) → segment_by T.overlay kind vni ≡ o → segment_by S.overlay kind vni ≡ p → is_some p ≡ false → is_some o ≡ false
      by None p is was absent = refl
      by (Some e) (Some f) is was absent = absurd (false≢true (sym absent))
      by (Some e) None is was absent =
          let it = found_where nat_cmp_total (has_tunnel kind vni) (entries T.overlay.segments) e (entries_sorted T.overlay.segments) is in
          let there : overlay_segment S.overlay e.0 ≡ Some e.1 = stands-there e.0 e.1 (get-entries T.overlay.segments e.0 ∙ it.0) in
          absurd (false≢true (sym (none_where nat_cmp_total (has_tunnel kind vni) (entries S.overlay.segments) e.0 e.1 was (sym (get-entries S.overlay.segments e.0) ∙ there)) ∙ it.1))

  free-too : (ts : List SegmentTunnel) → are_free S.overlay ts ≡ true → are_free T.overlay ts ≡ true
  free-too [] free = refl
  free-too (t ∷ ts) free =
      let both = and_parts (not (taken S.overlay t.kind t.vni)) (are_free S.overlay ts) free in
      let here : taken T.overlay t.kind t.vni ≡ false = not_taken t.kind t.vni (not-true (taken S.overlay t.kind t.vni) both.0) in
      rw (here, free-too ts both.1) refl

  -- ---- changes that need room

  -- a test of less that fails for more fails for less
  still : (a b c d : ℕ) → a ≡ c → d ≤ b → nat_lt a b ≡ false → nat_lt c d ≡ false
  still a b c d same less fails = let fewer = ltb-false a b fails in le-ltb c d (omega (arith, fewer, same, less))

  still-less : (a b c d : ℕ) → b ≤ a → c ≡ d → not (nat_lt a c) ≡ false → not (nat_lt b d) ≡ false
  still-less a b c d less same fails = let lt : a < c = ltb-true a c (not-false (nat_lt a c) fails) in ap not (lt-ltb b d (omega (arith, lt, less, same)))

  module _ (pool : S.pool ≡ T.pool) (most : S.overlay.underlay.limits.segments ≡ T.overlay.underlay.limits.segments) where
    segment-same : (v : ℕ) → (vid == v) ≡ true → segment_at S v ≡ segment_at T v
    segment-same v about = ap whole_of (part-named vid v everything S T h about)

    limit-same : (limit : ℕ) → is_limit S.overlay.underlay.limits.entries limit ≡ is_limit T.overlay.underlay.limits.entries limit
    limit-same limit = allowed-needed vid everything S T h limit refl

    comes-calm : (new : NewSegment) → (vid == new.vid) ≡ true → wants_room (refused S (AddSegment new)) ≡ false → wants_room (refused T (AddSegment new)) ≡ false
    comes-calm new about calm = subst (λ (b : Bool). wants_room (first (row b ∷ rest)) ≡ false) (limit-same new.limit) (by (row (is_limit S.overlay.underlay.limits.entries new.limit)).1 calm)
      where
        row : Bool → ChangeFault × Bool
        row b = (OutOfRange, not (b && is_ageing new.ageing && are_vnis new.tunnels))

        rest : List (ChangeFault × Bool)
        rest = (SegmentThere, is_taken T new) ∷ (SegmentsFull, not (nat_lt (segment_count (tables_asked T)) T.overlay.underlay.limits.segments)) ∷ (PoolFull, is_too_much T new.limit) ∷ []

        by : (b : Bool)
            → wants_room (first ((OutOfRange, b) ∷ (SegmentThere, is_taken S new) ∷ (SegmentsFull, not (nat_lt (segment_count (tables_asked S)) S.overlay.underlay.limits.segments)) ∷ (PoolFull, is_too_much S new.limit) ∷ [])) ≡ false
            → wants_room (first ((OutOfRange, b) ∷ (SegmentThere, is_taken T new) ∷ (SegmentsFull, not (nat_lt (segment_count (tables_asked T)) T.overlay.underlay.limits.segments)) ∷ (PoolFull, is_too_much T new.limit) ∷ [])) ≡ false
        by true x = refl
        by false x =
            let rows : List (ChangeFault × Bool) = (SegmentThere, is_taken S new) ∷ (SegmentsFull, not (nat_lt (segment_count (tables_asked S)) S.overlay.underlay.limits.segments)) ∷ (PoolFull, is_too_much S new.limit) ∷ [] in
            let none = NothingHolds-from rows (none-wants rows (refl, (refl, (refl, tt))) x) in
            let parts = or_parts (is_some (segment_at S new.vid)) (not (are_free S.overlay new.tunnels)) none.0 in
            let there : is_some (segment_at T new.vid) ≡ false = ap is_some (sym (segment-same new.vid about)) ∙ parts.0 in
            let free : are_free T.overlay new.tunnels ≡ true = free-too new.tunnels (not-false (are_free S.overlay new.tunnels) parts.1) in
            let full : not (nat_lt (segment_count (tables_asked T)) T.overlay.underlay.limits.segments) ≡ false = still-less (segment_count (tables_asked S)) (segment_count (tables_asked T)) S.overlay.underlay.limits.segments T.overlay.underlay.limits.segments count-less most none.1.0 in
            let much : is_too_much T new.limit ≡ false = still S.pool (sum_of_limits (tables_asked S) + new.limit) T.pool (sum_of_limits (tables_asked T) + new.limit) pool (omega (arith, limits-less)) none.1.1.0 in
            λ i. wants_room (first ((SegmentThere, there i || not (free i)) ∷ (SegmentsFull, full i) ∷ (PoolFull, much i) ∷ []))

    abbrev asked : Settings → ℕ → Option SegmentSettings → Option ChangeFault
    asked R limit o = in_segment o (λ s. first ((OutOfRange, not (is_limit R.overlay.underlay.limits.entries limit)) ∷ (PoolFull, nat_lt (R.pool + s.limit) (sum_of_limits (tables_asked R) + limit)) ∷ []))

    limited-calm : (limit : ℕ) (o p : Option SegmentSettings) → o ≡ p → wants_room (asked S limit o) ≡ false → wants_room (asked T limit p) ≡ false
    limited-calm limit None None same calm = refl
    limited-calm limit None (Some s) same calm = absurd (none-some s same)
    limited-calm limit (Some s) None same calm = absurd (none-some s (sym same))
    limited-calm limit (Some s) (Some r) same calm =
        subst (λ (b : Bool). wants_room (first ((OutOfRange, not b) ∷ (PoolFull, nat_lt (T.pool + r.limit) (sum_of_limits (tables_asked T) + limit)) ∷ [])) ≡ false) (limit-same limit)
        (by (not (is_limit S.overlay.underlay.limits.entries limit)) calm)
      where
        limits : s.limit ≡ r.limit
        limits = ap (λ (x : SegmentSettings). x.limit) (same_Some s r same)

        by : (b : Bool)
            → wants_room (first ((OutOfRange, b) ∷ (PoolFull, nat_lt (S.pool + s.limit) (sum_of_limits (tables_asked S) + limit)) ∷ [])) ≡ false
            → wants_room (first ((OutOfRange, b) ∷ (PoolFull, nat_lt (T.pool + r.limit) (sum_of_limits (tables_asked T) + limit)) ∷ [])) ≡ false
        by true x = refl
        by false x =
            let rows : List (ChangeFault × Bool) = (PoolFull, nat_lt (S.pool + s.limit) (sum_of_limits (tables_asked S) + limit)) ∷ [] in
            let none = NothingHolds-from rows (none-wants rows (refl, tt) x) in
            let much = still (S.pool + s.limit) (sum_of_limits (tables_asked S) + limit) (T.pool + r.limit) (sum_of_limits (tables_asked T) + limit) (omega (arith, pool, limits)) (omega (arith, limits-less)) none.0 in
            λ i. wants_room (first ((PoolFull, much i) ∷ []))

    change-calm : (c : Change) → asks_room vid c ≡ true → is_about vid c ≡ true → wants_room (refused S c) ≡ false → wants_room (refused T c) ≡ false
    change-calm (AddSegment new) asks is x = comes-calm new is x
    change-calm (SetLimit v limit) asks is x = limited-calm limit (segment_at S v) (segment_at T v) (segment-same v is) x
    change-calm c asks is x = absurd (false≢true asks)

    room-lone : (c : Change) → asks_room vid c ≡ true → is_about vid c ≡ true → lacks_room vid S (Asks c) ≡ false → lacks_room vid T (Asks c) ≡ false
    room-lone (AddSegment new) asks is x = choose (is_some (segment_at S new.vid)) refl
      where
        never : (a w : Bool) → a && (w && false) ≡ false
        never true true = refl
        never true false = refl
        never false w = refl

        choose : (b : Bool) → is_some (segment_at S new.vid) ≡ b → lacks_room vid T (Asks (AddSegment new)) ≡ false
        choose true there =
            let too : is_some (segment_at T new.vid) ≡ true = ap is_some (sym (segment-same new.vid is)) ∙ there in
            ap (λ (b : Bool). (vid == new.vid) && (wants_room (refused T (AddSegment new)) && not b)) too ∙ never (vid == new.vid) (wants_room (refused T (AddSegment new)))
        choose false absent =
            from-wants vid T (AddSegment new) (comes-calm new is (but-left (wants_room (refused S (AddSegment new))) (is_some (segment_at S new.vid)) absent (but-right (vid == new.vid) _ is x)))
    room-lone (SetLimit v limit) asks is x =
        from-wants vid T (SetLimit v limit) (change-calm (SetLimit v limit) asks is (but-left (wants_room (refused S (SetLimit v limit))) false refl (but-right (vid == v) _ is x)))
    room-lone c asks is x = absurd (false≢true asks)

    reply-lone : (i : Input) → lacks_room vid S i ≡ false → AreRoomAlike vid S T i × (room_reply vid S i ≡ room_reply vid T i)
    reply-lone (FrameAt port original b) calm = (tt, refl)
    reply-lone (Packet original b) calm = (tt, refl)
    reply-lone (Asks c) calm = by (asks_room vid c) refl
      where
        by : (b : Bool) → asks_room vid c ≡ b → (b ≡ true → refused S c ≡ refused T c) × (cond b (refused S c ∷ []) [] ≡ cond b (refused T c ∷ []) [])
        by true asks =
            let about : is_about vid c ≡ true = about-asked (takes_room (effect c)) (is_about vid c) asks in
            let same : refused S c ≡ refused T c = refused-calm vid everything S T c h (own-asked vid everything c asks) (within S (Asks c)) calm (room-lone c asks about calm) in
            (λ is. same, ap (λ why. why ∷ []) same)
        by false asks = (λ is. absurd (false≢true is), refl)

-- ---- what stays

pool-applied : (e : Effect) (S : Settings) → (applied e S).pool ≡ S.pool
pool-applied (ToFlood v change) S = by (segment_at S v)
  where
    by : (o : Option SegmentSettings) → (option_map_or (λ s. let left : Settings = record S { overlay = with_flood S.overlay v (change s) } in left) o S).pool ≡ S.pool
    by None = refl
    by (Some s) = refl
pool-applied e S = refl

pool-changed : (S : Settings) (c : Change) → (changed S c).pool ≡ S.pool
pool-changed S c = by (is_none (refused S c))
  where
    by : (b : Bool) → (cond b (accepted S c) S).pool ≡ S.pool
    by true = pool-applied (effect c) S
    by false = refl

pool-kept : (S : Settings) (i : Input) → (settings_after_input S i).pool ≡ S.pool
pool-kept S (FrameAt port original b) = refl
pool-kept S (Packet original b) = refl
pool-kept S (Asks c) = pool-changed S c

underlay-applied : (e : Effect) (S : Settings) → (applied e S).overlay.underlay ≡ S.overlay.underlay
underlay-applied (ToFlood v change) S = by (segment_at S v)
  where
    by : (o : Option SegmentSettings) → (option_map_or (λ s. let left : Settings = record S { overlay = with_flood S.overlay v (change s) } in left) o S).overlay.underlay ≡ S.overlay.underlay
    by None = refl
    by (Some s) = refl
underlay-applied e S = refl

most-kept : (S : Settings) (i : Input) → (settings_after_input S i).overlay.underlay.limits.segments ≡ S.overlay.underlay.limits.segments
most-kept S (FrameAt port original b) = refl
most-kept S (Packet original b) = refl
most-kept S (Asks c) = by (is_none (refused S c))
  where
    by : (b : Bool) → (cond b (accepted S c) S).overlay.underlay.limits.segments ≡ S.overlay.underlay.limits.segments
    by true = ap (λ (U : Underlay). U.limits.segments) (underlay-applied (effect c) S)
    by false = refl

-- a change that names no segment is of a port, and leaves all segments
port-changed : (w : ℕ) (S : Settings) (c : Change) → named c ≡ None → ((changed S c).bridges w ≡ S.bridges w) × (overlay_segment (changed S c).overlay w ≡ overlay_segment S.overlay w)
port-changed w S (AddFlood v addr tunnel) is = absurd (none-some v (sym is))
port-changed w S (RemoveFlood v addr tunnel) is = absurd (none-some v (sym is))
port-changed w S (Fix v mac target) is = absurd (none-some v (sym is))
port-changed w S (Unfix v mac) is = absurd (none-some v (sym is))
port-changed w S (SetAgeing v seconds) is = absurd (none-some v (sym is))
port-changed w S (SetLearning v on) is = absurd (none-some v (sym is))
port-changed w S (SetMember v port egress) is = absurd (none-some v (sym is))
port-changed w S (PortUp port) is = by (is_none (refused S (PortUp port)))
  where
    by : (b : Bool) → ((cond b (accepted S (PortUp port)) S).bridges w ≡ S.bridges w) × (overlay_segment (cond b (accepted S (PortUp port)) S).overlay w ≡ overlay_segment S.overlay w)
    by true = (refl, refl)
    by false = (refl, refl)
port-changed w S (PortDown port) is = by (is_none (refused S (PortDown port)))
  where
    by : (b : Bool) → ((cond b (accepted S (PortDown port)) S).bridges w ≡ S.bridges w) × (overlay_segment (cond b (accepted S (PortDown port)) S).overlay w ≡ overlay_segment S.overlay w)
    by true = (refl, refl)
    by false = (refl, refl)
port-changed w S (Flush v) is = absurd (none-some v (sym is))
port-changed w S (AddSegment new) is = absurd (none-some new.vid (sym is))
port-changed w S (RemoveSegment v) is = absurd (none-some v (sym is))
port-changed w S (SetLimit v limit) is = absurd (none-some v (sym is))

-- a change of the segment's own or of a port leaves the others
others-kept : (vid w : ℕ) (S : Settings) (c : Change) → is_about vid c ≡ true → (w == vid) ≡ false → ((changed S c).bridges w ≡ S.bridges w) × (overlay_segment (changed S c).overlay w ≡ overlay_segment S.overlay w)
others-kept vid w S c about other = by (named c) refl about
  where
    by : (o : Option ℕ) → named c ≡ o → option_map_or (λ own. vid == own) o true ≡ true → ((changed S c).bridges w ≡ S.bridges w) × (overlay_segment (changed S c).overlay w ≡ overlay_segment S.overlay w)
    by None is own = port-changed w S c is
    by (Some v) is own =
        let apart : is_about w c ≡ false = ap (λ o. option_map_or (λ own. w == own) o true) is ∙ ap (λ (n : ℕ). w == n) (sym (eqb-true vid v own)) ∙ other in
        let kept : part_of w everything (changed S c) ≡ part_of w everything S = changed-other w everything S c (ap (λ (b : Bool). b && is_needed everything (effect c)) apart) in
        (ap (λ (p : Part). p.bridge) kept, ap (λ (p : Part). p.tunnels) kept)

lone-kept : (vid : ℕ) (S : Settings) (i : Input) → names_or_concerns vid everything S i ≡ true → IsLone vid S → IsLone vid (settings_after_input S i)
lone-kept vid S (FrameAt port original b) own lone = lone
lone-kept vid S (Packet original b) own lone = lone
lone-kept vid S (Asks c) own lone = record {
  bridge = λ w other. (others-kept vid w S c (own-about vid everything c own) other).0 ∙ lone.bridge w other;
  tunnels = λ w other. (others-kept vid w S c (own-about vid everything c own) other).1 ∙ lone.tunnels w other;
}

-- ---- whole lists

module _ (vid : ℕ) where
  abbrev most_of : Settings → ℕ
  most_of S = S.overlay.underlay.limits.segments

  calm-again : (S T : Settings) (es : List Event) → part_of vid everything S ≡ part_of vid everything T → S.pool ≡ T.pool → most_of S ≡ most_of T → IsLone vid T → AreVnisApart S.overlay → AreVnisApart T.overlay
      → HasRoom vid S es → room_replies vid S es ≡ room_replies vid T (own_events vid everything S es)
  calm-again S T [] h pool most lone apart other calm = refl
  calm-again S T (e ∷ es) h pool most lone apart other calm = by (λ U. calm-again (settings_after_input S e.input) U es) (names_or_concerns vid everything S e.input) refl
    where
      Next : Settings → Type 0
      Next U =
          part_of vid everything (settings_after_input S e.input) ≡ part_of vid everything U → (settings_after_input S e.input).pool ≡ U.pool → most_of (settings_after_input S e.input) ≡ most_of U → IsLone vid U
          → AreVnisApart (settings_after_input S e.input).overlay → AreVnisApart U.overlay → HasRoom vid (settings_after_input S e.input) es
          → room_replies vid (settings_after_input S e.input) es ≡ room_replies vid U (own_events vid everything (settings_after_input S e.input) es)

      by : ((U : Settings) → Next U) → (b : Bool) → names_or_concerns vid everything S e.input ≡ b
          → room_replies vid S (e ∷ es) ≡ room_replies vid T (cond b (e ∷ own_events vid everything (settings_after_input S e.input) es) (own_events vid everything (settings_after_input S e.input) es))
      by next true is =
          let there : names_or_concerns vid everything T e.input ≡ true = sym (names-same vid S T h apart other e.input) ∙ is in
          let first = reply-lone vid S T h lone pool most e.input calm.0 in
          let rest = next (settings_after_input T e.input) (part-kept vid everything S T h e.input is first.0 (within S e.input)) (pool-kept S e.input ∙ pool ∙ sym (pool-kept T e.input)) (most-kept S e.input ∙ most ∙ sym (most-kept T e.input)) (lone-kept vid T e.input there lone) (apart-input S e.input apart) (apart-input T e.input other) calm.1 in
          λ i. first.1 i ++ rest i
      by next false is =
          ap (λ l. l ++ room_replies vid (settings_after_input S e.input) es) (room-none vid everything S e.input is)
          ∙ next T (part-left vid everything S e.input is ∙ h) (pool-kept S e.input ∙ pool) (most-kept S e.input ∙ most) lone (apart-input S e.input apart) other calm.1

  pub replies-single : (S : Settings) (es : List Event) → AreVnisApart S.overlay → HasRoom vid S es
      → room_replies vid S es ≡ room_replies vid (single vid S) (own_events vid everything S es)
  replies-single S es apart calm = calm-again S (single vid S) es (part-single vid everything S) refl refl (lone-single vid S) apart (apart-single vid S) calm
