-- The VNIs of segments stay apart, so packets come to a segment by its own.
use Rattle.std.proofs.Common.{◌≡◌, ◌∙◌, refl, sym, ap, subst, ℕ, ◌==◌, Bool, true, false, cond, not, nat_lt, ◌&&◌, List, [], ◌∷◌, ◌++◌, map, Option, Some, None, Result, append_assoc, append-nil}
use Rattle.std.specs.Prelude.{is_none, is_some, IfSome}
use Rattle.std.specs.Option.{option_map, option_map_or}
use Rattle.std.specs.Cmp.{nat_cmp_total}
use Rattle.std.specs.Ordering.{nat_cmp}
use Rattle.std.specs.FinMap.{get, insert, remove, entries, entries_sorted, get-entries, get-empty}
use Rattle.std.proofs.lemmas.Bool.{false≢true, eqb-true, eq-eqb, not-false, or_parts}
use Rattle.wire.proofs.FirstLemmas.{NothingHolds-from}
use Rattle.wire.specs.declared.ether.reason.Refused.{Refused}
use Rattle.wire.specs.Udp.{data_of}
use Rattle.wire.specs.declared.ip_udp.addr.Tunnel.{Tunnel}
use Rattle.overlay.proofs.PlacesLemmas.{get-insert_at, get-remove_at}
use Rattle.overlay.specs.Index.{has_at}
use Rattle.overlay.specs.Overlay.{Overlay, Segments, segment_at as overlay_segment, segment_of, segment_by, has_tunnel, are_free, flooding, with_flood, with_segment, told, AreApart}
use Rattle.overlay.specs.Tunnels.{of_kind}
use Rattle.overlay.specs.declared.underlay.segment.Segment.{Segment}
use Rattle.overlay.specs.declared.underlay.segment.TunnelRule.{TunnelRule}
use Rattle.overlay.specs.declared.underlay.settings.Underlay.{Underlay}
use Rattle.overlay.specs.declared.underlay.tunnels.SegmentTunnel.{SegmentTunnel}
use Rattle.overlay.proofs.CountLemmas.{found_where, none_where}
use Rattle.overlay.proofs.IndexLemmas.{free_of}
use Rattle.overlay.proofs.ToldLemmas.{IsApartFrom, apart_before, told_free, told_more}
use Rattle.overlay.specs.Flood.{Entries}
use Rattle.decapsulate.specs.Arrival.{packet_in, kind_to, vni_of}
use Rattle.overlay.specs.Rules.{MeetsRules}
use Rattle.overlay.specs.Settings.{Settings as Told, tunnel_rule}
use Rattle.overlay.proofs.Openers.{are_apart}
use Rattle.overlay.specs.declared.settings.change.Change.{Change}
use Rattle.overlay.specs.declared.settings.change.Change.TheVariants.{AddFlood, RemoveFlood, AddSegment, RemoveSegment}
use Rattle.overlay.specs.declared.settings.change.NewSegment.{NewSegment}
use Rattle.endpoint_core.specs.declared.state.fault.ChangeFault.{ChangeFault}
use Rattle.endpoint_core.specs.declared.state.fault.ChangeFault.TheVariants.{OutOfRange, SegmentThere, SegmentsFull, PoolFull}
use Rattle.endpoint_core.specs.Settings.{Settings, SegmentSettings, segment_at, tables_asked}
use Rattle.endpoint_core.specs.Effect.{new_tunnels}
use Rattle.endpoint_core.specs.Change.{is_limit, is_ageing, are_vnis, is_taken, is_too_much, refused, accepted, changed}
use Rattle.endpoint_core.specs.Opened.{settings_told}
use Rattle.filter_db.specs.Standing.{segment_count}
use Rattle.endpoint_core.specs.Arrival.{Arrival}
use Rattle.endpoint_core.specs.Arrival.{came_by}
use Rattle.endpoint_core.specs.Event.{FrameAt, Packet, Asks, Event, Input}
use Rattle.endpoint_core.specs.Run.{settings_after_input, settings_after}
use Rattle.noninterference.specs.Alone.{is_segment}
use Rattle.noninterference.proofs.Arriving.{found, found_for}
use Rattle.tenants_apart.specs.Own.{common, segment_met}
use Rattle.tenants_apart.specs.Vnis.{AreVnisApart}
use Rattle.tenants_apart.proofs.Changing.{flooded, flooding-at}
use Rattle.tenants_apart.proofs.Coming.{met-found, came_by-found}

-- ---- segments by VID

-- no two of these segments have tunnels of one kind with one VNI
abbrev Apart : Segments → Type 0
Apart m = (v w : ℕ) (kind : Tunnel) (vni : ℕ) → has_at kind m vni v ≡ true → has_at kind m vni w ≡ true → w ≡ v

chosen : (f : Segment → Bool) (b : Bool) (x o : Option Segment) → option_map_or f (cond b x o) false ≡ cond b (option_map_or f x false) (option_map_or f o false)
chosen f true x o = refl
chosen f false x o = refl

has-insert : (kind : Tunnel) (m : Segments) (k : ℕ) (g : Segment) (vni q : ℕ) → has_at kind (insert m k g) vni q ≡ cond (q == k) (has_tunnel kind vni g) (has_at kind m vni q)
has-insert kind m k g vni q = ap (λ (x : Option Segment). option_map_or (has_tunnel kind vni) x false) (get-insert_at m k g q) ∙ chosen (has_tunnel kind vni) (q == k) (Some g) (get m q)

has-remove : (kind : Tunnel) (m : Segments) (k vni q : ℕ) → has_at kind (remove m k) vni q ≡ cond (q == k) false (has_at kind m vni q)
has-remove kind m k vni q = ap (λ (x : Option Segment). option_map_or (has_tunnel kind vni) x false) (get-remove_at m k q) ∙ chosen (has_tunnel kind vni) (q == k) None (get m q)

has-flooding : (kind : Tunnel) (m : Segments) (k : ℕ) (flood : Entries) (vni q : ℕ) → has_at kind (flooding m k flood) vni q ≡ has_at kind m vni q
has-flooding kind m k flood vni q =
    ap (λ (x : Option Segment). option_map_or (has_tunnel kind vni) x false) (flooding-at m k flood q)
    ∙ chosen (has_tunnel kind vni) (q == k) (option_map (flooded flood) (get m k)) (get m q)
    ∙ by (q == k) refl
  where
    kept : (o : Option Segment) → option_map_or (has_tunnel kind vni) (option_map (flooded flood) o) false ≡ option_map_or (has_tunnel kind vni) o false
    kept None = refl
    kept (Some g) = refl

    by : (b : Bool) → (q == k) ≡ b → cond b (option_map_or (has_tunnel kind vni) (option_map (flooded flood) (get m k)) false) (has_at kind m vni q) ≡ has_at kind m vni q
    by true same = kept (get m k) ∙ sym (ap (λ (u : ℕ). has_at kind m vni u) (eqb-true q k same))
    by false other = refl

-- one more, with VNIs that none has
apart-insert : (m : Segments) (k : ℕ) (g : Segment) → Apart m → ((kind : Tunnel) (vni q : ℕ) → has_tunnel kind vni g ≡ true → has_at kind m vni q ≡ true → ⊥) → Apart (insert m k g)
apart-insert m k g apart none v w kind vni h l = by (v == k) (w == k) refl refl (sym (has-insert kind m k g vni v) ∙ h) (sym (has-insert kind m k g vni w) ∙ l)
  where
    by : (a b : Bool) → (v == k) ≡ a → (w == k) ≡ b → cond a (has_tunnel kind vni g) (has_at kind m vni v) ≡ true → cond b (has_tunnel kind vni g) (has_at kind m vni w) ≡ true → w ≡ v
    by true true is was x y = eqb-true w k was ∙ sym (eqb-true v k is)
    by true false is was x y = absurd (none kind vni w x y)
    by false true is was x y = absurd (none kind vni v y x)
    by false false is was x y = apart v w kind vni x y

apart-remove : (m : Segments) (k : ℕ) → Apart m → Apart (remove m k)
apart-remove m k apart v w kind vni h l = apart v w kind vni (by (v == k) (has_at kind m vni v) (sym (has-remove kind m k vni v) ∙ h)) (by (w == k) (has_at kind m vni w) (sym (has-remove kind m k vni w) ∙ l))
  where
    by : (b has : Bool) → cond b false has ≡ true → has ≡ true
    by true has x = absurd (false≢true x)
    by false has x = x

apart-flooding : (m : Segments) (k : ℕ) (flood : Entries) → Apart m → Apart (flooding m k flood)
apart-flooding m k flood apart v w kind vni h l = apart v w kind vni (sym (has-flooding kind m k flood vni v) ∙ h) (sym (has-flooding kind m k flood vni w) ∙ l)

-- ---- tunnels that are free

none-free : (kind : Tunnel) (m : Segments) (o : Option SegmentTunnel) → IfSome o (λ t. (q : ℕ) → has_at kind m t.vni q ≡ false) → (vni q : ℕ) → option_map_or (λ t. t.vni == vni) o false ≡ true → has_at kind m vni q ≡ true → ⊥
none-free kind m None free vni q h l = false≢true h
none-free kind m (Some t) free vni q h l = false≢true (sym (free q) ∙ ap (λ (n : ℕ). has_at kind m n q) (eqb-true t.vni vni h) ∙ l)

apart-more : (S : Overlay) (rule : TunnelRule) → AreVnisApart S → are_free S rule.tunnels ≡ true → AreVnisApart (with_segment S rule)
apart-more S rule apart free = apart-insert S.segments rule.vid (segment_of rule) apart (λ kind vni q. none-free kind S.segments (of_kind kind rule.tunnels) (free_of kind S rule.tunnels free) vni q)

-- ---- the segments that a text tells

apart-rules : (U : Underlay) (front rest : List TunnelRule) → AreApart (front ++ rest) → AreVnisApart (told U front) → AreVnisApart (told U (front ++ rest))
apart-rules U front [] apart h = subst (λ (l : List TunnelRule). AreVnisApart (told U l)) (sym (append-nil front)) h
apart-rules U front (more ∷ others) apart h =
    let before : IsApartFrom front more = apart_before front more others apart in
    let joined : (front ++ more ∷ []) ++ others ≡ front ++ more ∷ others = append_assoc front (more ∷ []) others in
    subst (λ (l : List TunnelRule). AreVnisApart (told U l)) joined
    (apart-rules U (front ++ more ∷ []) others (subst AreApart (sym joined) apart)
    (subst AreVnisApart (told_more U front more before) (apart-more (told U front) more h (told_free U front more before))))

none-yet : (U : Underlay) → AreVnisApart (told U [])
none-yet U v w kind vni h l = absurd (false≢true (sym (ap (λ (x : Option Segment). option_map_or (has_tunnel kind vni) x false) (get-empty nat_cmp v)) ∙ h))

pub apart-told : (s : Told) → MeetsRules s → AreVnisApart (settings_told s).overlay
apart-told s rules = apart-rules s.underlay [] (map tunnel_rule s.segments) (are_apart s rules) (none-yet s.underlay)

-- ---- the segments behind a change

none-is : (o : Option ChangeFault) → is_none o ≡ true → o ≡ None
none-is None h = refl
none-is (Some why) h = absurd (false≢true h)

free-if : (S : Settings) (new : NewSegment) → refused S (AddSegment new) ≡ None → are_free S.overlay new.tunnels ≡ true
free-if S new none =
    let rows : List (ChangeFault × Bool) =
    (OutOfRange, not (is_limit S.overlay.underlay.limits.entries new.limit && is_ageing new.ageing && are_vnis new.tunnels))
    ∷ (SegmentThere, is_taken S new)
    ∷ (SegmentsFull, not (nat_lt (segment_count (tables_asked S)) S.overlay.underlay.limits.segments))
    ∷ (PoolFull, is_too_much S new.limit)
    ∷ [] in
    not-false (are_free S.overlay new.tunnels) (or_parts (is_some (segment_at S new.vid)) (not (are_free S.overlay new.tunnels)) (NothingHolds-from rows none).1.0).1

apart-flooded : (S : Settings) (v : ℕ) (flood : SegmentSettings → Entries) (o : Option SegmentSettings) → AreVnisApart S.overlay → AreVnisApart (option_map_or (λ s. let left : Settings = record S { overlay = with_flood S.overlay v (flood s) } in left) o S).overlay
apart-flooded S v flood None apart = apart
apart-flooded S v flood (Some s) apart = apart-flooding S.overlay.segments v (flood s) apart

apart-accepted : (S : Settings) (c : Change) → is_none (refused S c) ≡ true → AreVnisApart S.overlay → AreVnisApart (accepted S c).overlay
apart-accepted S (AddFlood v addr tunnel) taken apart = apart-flooded S v _ (segment_at S v) apart
apart-accepted S (RemoveFlood v addr tunnel) taken apart = apart-flooded S v _ (segment_at S v) apart
apart-accepted S (AddSegment new) taken apart = apart-more S.overlay (new_tunnels new) apart (free-if S new (none-is (refused S (AddSegment new)) taken))
apart-accepted S (RemoveSegment v) taken apart = apart-remove S.overlay.segments v apart
apart-accepted S c taken apart = apart

apart-changed : (S : Settings) (c : Change) → AreVnisApart S.overlay → AreVnisApart (changed S c).overlay
apart-changed S c apart = by (is_none (refused S c)) refl
  where
    by : (b : Bool) → is_none (refused S c) ≡ b → AreVnisApart (cond b (accepted S c) S).overlay
    by true is = apart-accepted S c is apart
    by false is = apart

pub apart-input : (S : Settings) (i : Input) → AreVnisApart S.overlay → AreVnisApart (settings_after_input S i).overlay
apart-input S (FrameAt port original b) apart = apart
apart-input S (Packet original b) apart = apart
apart-input S (Asks c) apart = apart-changed S c apart

pub apart-after : (S : Settings) (es : List Event) → AreVnisApart S.overlay → AreVnisApart (settings_after S es).overlay
apart-after S [] apart = apart
apart-after S (e ∷ es) apart = apart-after (settings_after_input S e.input) es (apart-input S e.input apart)

-- ---- packets

-- what is found for a segment is found for it where that has the same tunnels, and no other its VNIs
found-too : (vid : ℕ) (S T : Overlay) → overlay_segment S vid ≡ overlay_segment T vid → AreVnisApart T → (d : List ℕ) (kind : Option Tunnel) → is_segment vid (option_map (λ e. e.0) (found_for S d kind)) ≡ true → is_segment vid (option_map (λ e. e.0) (found_for T d kind)) ≡ true
found-too vid S T here apart d None own = own
found-too vid S T here apart d (Some kind) own = by (segment_by S kind (vni_of kind d)) (segment_by T kind (vni_of kind d)) refl refl own
  where
    vni : ℕ
    vni = vni_of kind d

    stands : (R : Overlay) (e : ℕ × Segment) → segment_by R kind vni ≡ Some e → (overlay_segment R e.0 ≡ Some e.1) × (has_tunnel kind vni e.1 ≡ true)
    stands R e is =
        let it = found_where nat_cmp_total (has_tunnel kind vni) (entries R.segments) e (entries_sorted R.segments) is in
        (get-entries R.segments e.0 ∙ it.0, it.1)

    has : (g : Segment) (v : ℕ) → overlay_segment T v ≡ Some g → has_tunnel kind vni g ≡ true → has_at kind T.segments vni v ≡ true
    has g v there it = ap (λ (x : Option Segment). option_map_or (has_tunnel kind vni) x false) there ∙ it

    by : (o p : Option (ℕ × Segment)) → segment_by S kind vni ≡ o → segment_by T kind vni ≡ p → is_segment vid (option_map (λ e. e.0) o) ≡ true → is_segment vid (option_map (λ e. e.0) p) ≡ true
    by None p is was in_S = absurd (false≢true in_S)
    by (Some e) None is was in_S =
        let e_at : vid ≡ e.0 = eqb-true vid e.0 in_S in
        let it = stands S e is in
        let there : overlay_segment T vid ≡ Some e.1 = sym here ∙ ap (overlay_segment S) e_at ∙ it.0 in
        absurd (false≢true (sym (none_where nat_cmp_total (has_tunnel kind vni) (entries T.segments) vid e.1 was (sym (get-entries T.segments vid) ∙ there)) ∙ it.1))
    by (Some e) (Some f) is was in_S =
        let e_at : vid ≡ e.0 = eqb-true vid e.0 in_S in
        let it = stands S e is in
        let there : overlay_segment T vid ≡ Some e.1 = sym here ∙ ap (overlay_segment S) e_at ∙ it.0 in
        let that = stands T f was in
        eq-eqb vid f.0 (sym (apart vid f.0 kind vni (has e.1 vid there it.1) (has f.1 f.0 that.0 that.1)))

found-for : (vid : ℕ) (S T : Overlay) → common S.underlay ≡ common T.underlay → overlay_segment S vid ≡ overlay_segment T vid → AreVnisApart T → (b : List ℕ) → is_segment vid (option_map (λ e. e.0) (found S b)) ≡ true → is_segment vid (option_map (λ e. e.0) (found T b)) ≡ true
unfolding found
found-for vid S T underlay here apart b own =
    let d = data_of (packet_in b).payload in
    ap (λ (U : Underlay). is_segment vid (option_map (λ e. e.0) (found_for T d (kind_to U (packet_in b))))) (sym underlay)
    ∙ found-too vid S T here apart d (kind_to S.underlay (packet_in b)) own

packet-too : (vid : ℕ) (S T : Overlay) → common S.underlay ≡ common T.underlay → overlay_segment S vid ≡ overlay_segment T vid → AreVnisApart T → (original : ℕ) (b : List ℕ) → is_segment vid (segment_met (came_by S original b)) ≡ true → is_segment vid (segment_met (came_by T original b)) ≡ true
packet-too vid S T underlay here apart original b own =
    let in_S = met-found vid S original b own in
    ap (λ (r : Result Arrival Refused). is_segment vid (segment_met r)) (came_by-found vid S T underlay here original b in_S (found-for vid S T underlay here apart b in_S)) ∙ own

-- so a packet is of the segment in both or in neither
pub packet-own : (vid : ℕ) (S T : Overlay) → common S.underlay ≡ common T.underlay → overlay_segment S vid ≡ overlay_segment T vid → AreVnisApart S → AreVnisApart T → (original : ℕ) (b : List ℕ) → is_segment vid (segment_met (came_by S original b)) ≡ is_segment vid (segment_met (came_by T original b))
packet-own vid S T underlay here apart other original b = by (is_segment vid (segment_met (came_by S original b))) (is_segment vid (segment_met (came_by T original b))) refl refl
  where
    by : (c d : Bool) → is_segment vid (segment_met (came_by S original b)) ≡ c → is_segment vid (segment_met (came_by T original b)) ≡ d → c ≡ d
    by true d is was = sym (packet-too vid S T underlay here other original b is) ∙ was
    by false true is was = sym is ∙ packet-too vid T S (sym underlay) (sym here) apart original b was
    by false false is was = refl
