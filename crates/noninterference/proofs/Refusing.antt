-- Why a change is refused, by what a segment sees.
use Rattle.std.proofs.Common.{◌≡◌, ℕ, ◌+◌, ◌==◌, Bool, true, false, cond, not, nat_lt, ◌&&◌, ◌||◌, List, [], ◌∷◌, length, Option, Some, None, refl, sym, ap, ◌∙◌, subst}
use Rattle.std.specs.Prelude.{if◌then◌else◌, is_some}
use Rattle.std.specs.Option.{option_map, unwrap_or}
use Rattle.std.specs.FinMap.{empty}
use Rattle.std.proofs.lemmas.Bool.{eqb-true}
use Rattle.wire.specs.First.{first}
use Rattle.wire.specs.Address.{is_group as is_group_mac}
use Rattle.wire.specs.declared.ip_udp.addr.Tunnel.{Tunnel}
use Rattle.filter_db.specs.Segment.{Segment as TableSegment}
use Rattle.filter_db.specs.Standing.{limit_in, sum_of_limits, segment_count}
use Rattle.filter_db.proofs.StandingLemmas.{sum_of_limits-same, segment_count-same}
use Rattle.overlay.specs.Flood.{add_faults, holds}
use Rattle.overlay.specs.Ports.{Members, members_at}
use Rattle.overlay.specs.UnderlaySettings.{own}
use Rattle.overlay.specs.Overlay.{segment_at as overlay_segment, segment_by, taken, are_free}
use Rattle.overlay.specs.declared.underlay.segment.Segment.{Segment as Tunneled}
use Rattle.overlay.specs.declared.underlay.tunnels.SegmentTunnel.{SegmentTunnel}
use Rattle.overlay.specs.declared.settings.change.NewSegment.{NewSegment}
use Rattle.overlay.specs.declared.settings.change.Change.{Change}
use Rattle.overlay.specs.declared.settings.change.Change.TheVariants.{AddFlood, RemoveFlood, Fix, Unfix, SetAgeing, SetLearning, SetMember, PortUp, PortDown, Flush, AddSegment, RemoveSegment, SetLimit}
use Rattle.endpoint_core.specs.declared.state.fault.ChangeFault.{ChangeFault}
use Rattle.endpoint_core.specs.declared.state.fault.ChangeFault.TheVariants.{NoSegment, NotThere, GroupAddress, OutOfRange, SegmentThere, PoolFull, SegmentsFull}
use Rattle.endpoint_core.specs.Fault.{of_flood}
use Rattle.endpoint_core.specs.Settings.{Settings, BridgeSettings, SegmentSettings, tables_asked, segment_at, kind_named}
use Rattle.endpoint_core.specs.Effect.{effect}
use Rattle.endpoint_core.specs.Change.{is_about, in_segment, at_tunnel, is_ageing, is_limit, are_vnis, port_fault, target_fault, refused}
use Rattle.noninterference.specs.Alone.{all_see}
use Rattle.noninterference.proofs.Finding.{tunnels, found_short}
use Rattle.noninterference.proofs.Shorts.{short}
use Rattle.noninterference.proofs.Seeing.{Seen, seen, limit_of, own_by, own_of}

-- what is seen of the segment of this VID is seen of the one that is named
pub seen_named : (vid v : ℕ) (S T : Settings) → seen vid S ≡ seen vid T → (vid == v) ≡ true → seen v S ≡ seen v T
seen_named vid v S T h same = subst (λ (w : ℕ). seen w S ≡ seen w T) (eqb-true vid v same) h

-- ---- other segments

-- what every segment sees of one: that it is there, and the limit of its table
limits_is : (bridge : Option BridgeSettings) (g : Option Tunneled) (members : Option Members) → option_map (λ s. s.limit) (own_by bridge g members) ≡ cond (is_some members && is_some (option_map tunnels g)) (limit_of bridge) None
limits_is None g members = sym (either (is_some members && is_some (option_map tunnels g)))
  where
    either : (b : Bool) → cond b (limit_of None) None ≡ None
    either true = refl
    either false = refl
limits_is (Some b) None (Some m) = refl
limits_is (Some b) None None = refl
limits_is (Some b) (Some g) None = refl
limits_is (Some b) (Some g) (Some m) = refl

limit-same : (vid v : ℕ) (S T : Settings) → seen vid S ≡ seen vid T → option_map (λ s. s.limit) (segment_at S v) ≡ option_map (λ s. s.limit) (segment_at T v)
limit-same vid v S T h =
    limits_is (S.bridges v) (overlay_segment S.overlay v) (members_at S.ports v)
    ∙ ap (λ (x : Seen). cond (x.stands v && is_some (x.tunnels v)) (x.limits v) None) h
    ∙ sym (limits_is (T.bridges v) (overlay_segment T.overlay v) (members_at T.ports v))

-- a change of a segment that asks for no more than its limit
abbrev by_limit : (ℕ → Option ChangeFault) → Option ℕ → Option ChangeFault
by_limit next None = Some NoSegment
by_limit next (Some limit) = next limit

asked-limit : (next : ℕ → Option ChangeFault) (o : Option SegmentSettings) → in_segment o (λ s. next s.limit) ≡ by_limit next (option_map (λ s. s.limit) o)
asked-limit next None = refl
asked-limit next (Some s) = refl

there-limit : (o : Option SegmentSettings) → is_some o ≡ is_some (option_map (λ s. s.limit) o)
there-limit None = refl
there-limit (Some s) = refl

-- ---- tunnels

found-short : (o : Option (ℕ × Tunneled)) → is_some o ≡ is_some (option_map (short tunnels) o)
found-short None = refl
found-short (Some e) = refl

taken-same : (vid : ℕ) (S T : Settings) → seen vid S ≡ seen vid T → (kind : Tunnel) (vni : ℕ) → taken S.overlay kind vni ≡ taken T.overlay kind vni
taken-same vid S T h kind vni =
    found-short (segment_by S.overlay kind vni)
    ∙ ap is_some (found_short S.overlay T.overlay (λ w. ap (λ (x : Seen). x.tunnels w) h) kind vni)
    ∙ sym (found-short (segment_by T.overlay kind vni))

free-same : (vid : ℕ) (S T : Settings) → seen vid S ≡ seen vid T → (ts : List SegmentTunnel) → are_free S.overlay ts ≡ are_free T.overlay ts
free-same vid S T h [] = refl
free-same vid S T h (t ∷ ts) = λ i. not (taken-same vid S T h t.kind t.vni i) && free-same vid S T h ts i

-- ---- the pool

limit_in-is : (o : Option BridgeSettings) → limit_in (option_map (λ b. let s : TableSegment = record { limit = b.limit; ageing = b.ageing; entries = empty } in s) o) ≡ unwrap_or (limit_of o) 0
limit_in-is None = refl
limit_in-is (Some b) = refl

there-is : (o : Option BridgeSettings) → is_some (option_map (λ b. let s : TableSegment = record { limit = b.limit; ageing = b.ageing; entries = empty } in s) o) ≡ is_some (limit_of o)
there-is None = refl
there-is (Some b) = refl

sum-same : (vid : ℕ) (S T : Settings) → seen vid S ≡ seen vid T → sum_of_limits (tables_asked S) ≡ sum_of_limits (tables_asked T)
sum-same vid S T h = sum_of_limits-same (tables_asked S) (tables_asked T) (λ w. limit_in-is (S.bridges w) ∙ ap (λ (x : Seen). unwrap_or (x.limits w) 0) h ∙ sym (limit_in-is (T.bridges w)))

count-same : (vid : ℕ) (S T : Settings) → seen vid S ≡ seen vid T → segment_count (tables_asked S) ≡ segment_count (tables_asked T)
count-same vid S T h = segment_count-same (tables_asked S) (tables_asked T) (λ w. there-is (S.bridges w) ∙ ap (λ (x : Seen). is_some (x.limits w)) h ∙ sym (there-is (T.bridges w)))

-- ---- why a change is refused

abbrev port_refused : ℕ → Seen → Option ChangeFault
port_refused port x = port_fault (length x.ports) port

comes-same : (vid : ℕ) (S T : Settings) → seen vid S ≡ seen vid T → (new : NewSegment) → refused S (AddSegment new) ≡ refused T (AddSegment new)
comes-same vid S T h new =
    let there : is_some (segment_at S new.vid) ≡ is_some (segment_at T new.vid) = there-limit (segment_at S new.vid) ∙ ap is_some (limit-same vid new.vid S T h) ∙ sym (there-limit (segment_at T new.vid)) in
    let free : are_free S.overlay new.tunnels ≡ are_free T.overlay new.tunnels = free-same vid S T h new.tunnels in
    let pool : S.pool ≡ T.pool = ap (λ (x : Seen). x.pool) h in
    let sum : sum_of_limits (tables_asked S) ≡ sum_of_limits (tables_asked T) = sum-same vid S T h in
    let count : segment_count (tables_asked S) ≡ segment_count (tables_asked T) = count-same vid S T h in
    let entries : S.overlay.underlay.limits.entries ≡ T.overlay.underlay.limits.entries = ap (λ (x : Seen). x.underlay.limits.entries) h in
    let most : S.overlay.underlay.limits.segments ≡ T.overlay.underlay.limits.segments = ap (λ (x : Seen). x.underlay.limits.segments) h in
    λ i. first
    ((OutOfRange, not (is_limit (entries i) new.limit && is_ageing new.ageing && are_vnis new.tunnels))
    ∷ (SegmentThere, there i || not (free i))
    ∷ (SegmentsFull, not (nat_lt (count i) (most i)))
    ∷ (PoolFull, nat_lt (pool i) (sum i + new.limit))
    ∷ [])

-- what SetLimit asks, of the most entries of a segment, of the pool, of the limits of all and of its segment's own
abbrev limit_asked : ℕ → ℕ → ℕ → ℕ → ℕ → Option ChangeFault
limit_asked limit entries pool sum own = first ((OutOfRange, not (is_limit entries limit)) ∷ (PoolFull, nat_lt (pool + own) (sum + limit)) ∷ [])

limited-same : (vid : ℕ) (S T : Settings) → seen vid S ≡ seen vid T → (v limit : ℕ) → refused S (SetLimit v limit) ≡ refused T (SetLimit v limit)
limited-same vid S T h v limit =
    let entries : S.overlay.underlay.limits.entries ≡ T.overlay.underlay.limits.entries = ap (λ (x : Seen). x.underlay.limits.entries) h in
    let pool : S.pool ≡ T.pool = ap (λ (x : Seen). x.pool) h in
    let sum : sum_of_limits (tables_asked S) ≡ sum_of_limits (tables_asked T) = sum-same vid S T h in
    asked-limit (limit_asked limit S.overlay.underlay.limits.entries S.pool (sum_of_limits (tables_asked S))) (segment_at S v)
    ∙ (λ i. by_limit (limit_asked limit (entries i) (pool i) (sum i)) (limit-same vid v S T h i))
    ∙ sym (asked-limit (limit_asked limit T.overlay.underlay.limits.entries T.pool (sum_of_limits (tables_asked T))) (segment_at T v))

goes-same : (vid : ℕ) (S T : Settings) → seen vid S ≡ seen vid T → (v : ℕ) → refused S (RemoveSegment v) ≡ refused T (RemoveSegment v)
goes-same vid S T h v = asked-limit (λ own. None) (segment_at S v) ∙ ap (by_limit (λ own. None)) (limit-same vid v S T h) ∙ sym (asked-limit (λ own. None) (segment_at T v))

-- a change that not every segment sees is about the one
own_about : (b : Bool) → b || false ≡ true → b ≡ true
own_about true is = refl
own_about false is = is

-- settings that look alike to a segment refuse alike what concerns it
pub refused-same : (vid : ℕ) (S T : Settings) → seen vid S ≡ seen vid T → (c : Change) → is_about vid c || all_see (effect c) ≡ true → refused S c ≡ refused T c
refused-same vid S T h (AddFlood v addr tunnel) about =
    ap (λ (x : Seen). in_segment (own_of x) (λ s. at_tunnel (kind_named s.tunnels tunnel) (λ kind. option_map of_flood (first (add_faults (own x.underlay) x.underlay.limits.flood s.flood kind addr))))) (seen_named vid v S T h (own_about _ about))
refused-same vid S T h (RemoveFlood v addr tunnel) about =
    ap (λ (x : Seen). in_segment (own_of x) (λ s. at_tunnel (kind_named s.tunnels tunnel) (λ kind. first ((NotThere, not (holds s.flood kind addr)) ∷ [])))) (seen_named vid v S T h (own_about _ about))
refused-same vid S T h (Fix v mac target) about =
    ap (λ (x : Seen). in_segment (own_of x) (λ s. if is_group_mac mac then Some GroupAddress else target_fault (own x.underlay) (length x.ports) s.tunnels target)) (seen_named vid v S T h (own_about _ about))
refused-same vid S T h (Unfix v mac) about = ap (λ (x : Seen). in_segment (own_of x) (λ s. None)) (seen_named vid v S T h (own_about _ about))
refused-same vid S T h (SetAgeing v seconds) about = ap (λ (x : Seen). in_segment (own_of x) (λ s. first ((OutOfRange, not (is_ageing seconds)) ∷ []))) (seen_named vid v S T h (own_about _ about))
refused-same vid S T h (SetLearning v on) about = ap (λ (x : Seen). in_segment (own_of x) (λ s. None)) (seen_named vid v S T h (own_about _ about))
refused-same vid S T h (SetMember v port egress) about = ap (λ (x : Seen). in_segment (own_of x) (λ s. port_refused port x)) (seen_named vid v S T h (own_about _ about))
refused-same vid S T h (PortUp port) about = ap (port_refused port) h
refused-same vid S T h (PortDown port) about = ap (port_refused port) h
refused-same vid S T h (Flush v) about = ap (λ (x : Seen). in_segment (own_of x) (λ s. None)) (seen_named vid v S T h (own_about _ about))
refused-same vid S T h (AddSegment new) about = comes-same vid S T h new
refused-same vid S T h (RemoveSegment v) about = goes-same vid S T h v
refused-same vid S T h (SetLimit v limit) about = limited-same vid S T h v limit
