-- The underlay of an endpoint never changes, and its tunnels change only where a segment comes or goes.
use Rattle.std.proofs.Common.{◌≡◌, ℕ, ◌<◌, Bool, true, false, cond, not, ◌&&◌, arith, List, [], ◌∷◌, Option, Some, None, refl, sym, ap, ◌∙◌, subst}
use Rattle.std.specs.Prelude.{is_some, nat_lt, ◌==◌}
use Rattle.std.specs.Option.{option_map, option_map_or, option_and_then}
use Rattle.std.specs.List.{list_all}
use Rattle.std.specs.FinMap.{get, insert}
use Rattle.std.proofs.lemmas.Bool.{eqb-true, ltb-true, and_parts, or_parts, false≢true}
use Rattle.wire.proofs.FirstLemmas.{NothingHolds-from}
use Rattle.wire.specs.Vxlan.{IsVni}
use Rattle.wire.specs.declared.ip_udp.addr.Addr.{Addr}
use Rattle.wire.specs.declared.ip_udp.addr.Tunnel.{Tunnel}
use Rattle.wire.specs.declared.ip_udp.addr.Tunnel.TheVariants.{Vxlan, Geneve}
use Rattle.overlay.specs.Flood.{Entries, has_family}
use Rattle.overlay.specs.declared.flood.remote.Remote.{Remote as Target}
use Rattle.filter_db.specs.declared.place.Place.{Place}
use Rattle.filter_db.specs.declared.place.Place.TheVariants.{Local, Remote}
use Rattle.overlay.specs.Ports.{Members, members_at}
use Rattle.overlay.proofs.PlacesLemmas.{get-insert_at, get-remove_at}
use Rattle.overlay.specs.UnderlaySettings.{own}
use Rattle.overlay.specs.Tunnels.{of_kind}
use Rattle.overlay.specs.declared.underlay.tunnels.SegmentTunnel.{SegmentTunnel}
use Rattle.overlay.specs.Overlay.{Overlay, segment_of, are_free, flood_at, tunnel_at, tunnel_of, with_flood, segment_at as under_at}
use Rattle.overlay.specs.declared.underlay.segment.Segment.{Segment}
use Rattle.overlay.specs.declared.settings.change.NewSegment.{NewSegment}
use Rattle.overlay.specs.declared.settings.change.Change.{Change}
use Rattle.overlay.specs.declared.settings.change.Change.TheVariants.{AddSegment}
use Rattle.filter_db.specs.Standing.{segment_count}
use Rattle.endpoint_core.specs.declared.state.fault.ChangeFault.{ChangeFault}
use Rattle.endpoint_core.specs.declared.state.fault.ChangeFault.TheVariants.{OutOfRange, SegmentThere, PoolFull, SegmentsFull}
use Rattle.endpoint_core.specs.Settings.{Settings, BridgeSettings, SegmentSettings, tables_asked, joined, segment_at}
use Rattle.endpoint_core.specs.Effect.{Effect, ToFlood, ToBridge, ToLimit, ToMembers, ToPort, Comes, Goes, ToNothing, effect, new_tunnels, with_segment, without_segment, applied}
use Rattle.endpoint_core.specs.Change.{is_limit, is_ageing, is_vni, is_vni_of, are_vnis, is_taken, is_too_much, refused, accepted}
use Rattle.endpoint_core.specs.Sound.{reaches, is_reached_if}

-- ---- what never changes

pub record Keeps (S T : Settings) : Type 0 where
  pub underlay : S.overlay.underlay ≡ T.overlay.underlay
  pub tunnels : (vid : ℕ) (kind : Tunnel) → tunnel_at S.overlay vid kind ≡ tunnel_at T.overlay vid kind

pub Keeps-itself : (S : Settings) → Keeps S S
Keeps-itself S = record { underlay = refl; tunnels = λ vid kind. refl }

pub Keeps-then : (S T U : Settings) → Keeps S T → Keeps T U → Keeps S U
Keeps-then S T U h k = record { underlay = h.underlay ∙ k.underlay; tunnels = λ vid kind. h.tunnels vid kind ∙ k.tunnels vid kind }

-- another flood list leaves the tunnels
tunnels-flooded : (O : Overlay) (vid : ℕ) (flood : Entries) (w : ℕ) (kind : Tunnel) (o : Option Segment) → under_at O vid ≡ o
    → option_and_then (λ h. tunnel_of h kind) (get (option_map_or (λ g. insert O.segments vid (record g { flood = flood })) o O.segments) w) ≡ tunnel_at O w kind
tunnels-flooded O vid flood w kind None is = refl
tunnels-flooded O vid flood w kind (Some g) is =
    ap (option_and_then (λ (h : Segment). tunnel_of h kind)) (get-insert_at O.segments vid (record g { flood = flood }) w) ∙ by (w == vid) refl
  where
    by : (b : Bool) → (w == vid) ≡ b → option_and_then (λ h. tunnel_of h kind) (cond b (Some (record g { flood = flood })) (get O.segments w)) ≡ tunnel_at O w kind
    by true same = sym (ap (λ (v : ℕ). tunnel_at O v kind) (eqb-true w vid same) ∙ ap (option_and_then (λ (h : Segment). tunnel_of h kind)) is)
    by false other = refl

Keeps-flooded : (S : Settings) (vid : ℕ) (change : SegmentSettings → Entries) (o : Option SegmentSettings) → Keeps (option_map_or (λ s. let new : Settings = record S { overlay = with_flood S.overlay vid (change s) } in new) o S) S
Keeps-flooded S vid change None = Keeps-itself S
Keeps-flooded S vid change (Some s) = record { underlay = refl; tunnels = λ w kind. tunnels-flooded S.overlay vid (change s) w kind (under_at S.overlay vid) refl }

-- a segment comes or goes
abbrev pub moves : Effect → Bool
moves (Comes new) = true
moves (Goes vid) = true
moves other = false

Keeps-applied : (e : Effect) (S : Settings) → moves e ≡ false → Keeps (applied e S) S
Keeps-applied (ToFlood vid change) S stays = Keeps-flooded S vid change (segment_at S vid)
Keeps-applied (Comes new) S stays = absurd (false≢true (sym stays))
Keeps-applied (Goes vid) S stays = absurd (false≢true (sym stays))
Keeps-applied ToNothing S stays = Keeps-itself S
Keeps-applied e S stays = record { underlay = refl; tunnels = λ w kind. refl }

pub Keeps-accepted : (S : Settings) (c : Change) → moves (effect c) ≡ false → Keeps (accepted S c) S
Keeps-accepted S c stays = Keeps-applied (effect c) S stays

-- ---- the underlay, and the range of VNIs

-- each tunnel has a VNI of 24 bits
abbrev pub HasVnis : Settings → Type 0
HasVnis S = (vid : ℕ) (kind : Tunnel) (t : SegmentTunnel) → tunnel_at S.overlay vid kind ≡ Some t → IsVni t.vni

pub record Stays (S T : Settings) : Type 0 where
  pub underlay : S.overlay.underlay ≡ T.overlay.underlay
  pub vnis : HasVnis T → HasVnis S

pub Stays-itself : (S : Settings) → Stays S S
Stays-itself S = record { underlay = refl; vnis = λ h. h }

pub Stays-then : (S T U : Settings) → Stays S T → Stays T U → Stays S U
Stays-then S T U h k = record { underlay = h.underlay ∙ k.underlay; vnis = λ all. h.vnis (k.vnis all) }

Stays-kept : (S T : Settings) → Keeps S T → Stays S T
Stays-kept S T k = record { underlay = k.underlay; vnis = λ all vid kind t is. all vid kind t (sym (k.tunnels vid kind) ∙ is) }

of-kind : (kind : Tunnel) (tunnels : List SegmentTunnel) → are_vnis tunnels ≡ true → is_vni_of kind tunnels ≡ true
of-kind Vxlan tunnels all = (and_parts (is_vni_of Vxlan tunnels) (is_vni_of Geneve tunnels) all).0
of-kind Geneve tunnels all = (and_parts (is_vni_of Vxlan tunnels) (is_vni_of Geneve tunnels) all).1

added-vni : (tunnels : List SegmentTunnel) (kind : Tunnel) (t : SegmentTunnel) → are_vnis tunnels ≡ true → of_kind kind tunnels ≡ Some t → IsVni t.vni
added-vni tunnels kind t all is =
    below (ltb-true t.vni 16777216 (sym (ap (λ (o : Option SegmentTunnel). option_map_or (λ u. is_vni u.vni) o true) is) ∙ of-kind kind tunnels all))
  where
    below : {n : ℕ} → n < 16777216 → IsVni n
    below h = omega (arith, h)

Stays-comes : (S : Settings) (new : NewSegment) → are_vnis new.tunnels ≡ true → Stays (with_segment S new) S
Stays-comes S new typed = record { underlay = refl; vnis = λ all vid kind t is. by all vid kind t (vid == new.vid) (sym (ap (option_and_then (λ (h : Segment). tunnel_of h kind)) (get-insert_at S.overlay.segments new.vid (segment_of (new_tunnels new)) vid)) ∙ is) }
  where
    by : HasVnis S → (vid : ℕ) (kind : Tunnel) (t : SegmentTunnel) (b : Bool) → option_and_then (λ h. tunnel_of h kind) (cond b (Some (segment_of (new_tunnels new))) (under_at S.overlay vid)) ≡ Some t → IsVni t.vni
    by all vid kind t true is = added-vni new.tunnels kind t typed is
    by all vid kind t false is = all vid kind t is

Stays-goes : (S : Settings) (v : ℕ) → Stays (without_segment S v) S
Stays-goes S v = record { underlay = refl; vnis = λ all vid kind t is. by all vid kind t (vid == v) (sym (ap (option_and_then (λ (h : Segment). tunnel_of h kind)) (get-remove_at S.overlay.segments v vid)) ∙ is) }
  where
    by : HasVnis S → (vid : ℕ) (kind : Tunnel) (t : SegmentTunnel) (b : Bool) → option_and_then (λ h. tunnel_of h kind) (cond b None (under_at S.overlay vid)) ≡ Some t → IsVni t.vni
    by all vid kind t true is = absurd cc
    by all vid kind t false is = all vid kind t is

-- ---- a segment that comes

third_true : (a b c : Bool) → not (a && b && c) ≡ false → c ≡ true
third_true true true true h = refl
third_true true true false h = absurd (false≢true (sym h))
third_true true false c h = absurd (false≢true (sym h))
third_true false b c h = absurd (false≢true (sym h))

not_some : (o : Option SegmentSettings) → is_some o ≡ false → o ≡ None
not_some None h = refl
not_some (Some s) h = absurd (false≢true (sym h))

abbrev refusals : Settings → NewSegment → List (ChangeFault × Bool)
refusals S new =
    (OutOfRange, not (is_limit S.overlay.underlay.limits.entries new.limit && is_ageing new.ageing && are_vnis new.tunnels))
    ∷ (SegmentThere, is_taken S new)
    ∷ (SegmentsFull, not (nat_lt (segment_count (tables_asked S)) S.overlay.underlay.limits.segments))
    ∷ (PoolFull, is_too_much S new.limit)
    ∷ []

-- it wasn't there
pub new-absent : (S : Settings) (new : NewSegment) → refused S (AddSegment new) ≡ None → segment_at S new.vid ≡ None
new-absent S new none = not_some (segment_at S new.vid) (or_parts (is_some (segment_at S new.vid)) (not (are_free S.overlay new.tunnels)) (NothingHolds-from (refusals S new) none).1.0).0

-- its VNIs have 24 bits
new-vnis : (S : Settings) (new : NewSegment) → refused S (AddSegment new) ≡ None → are_vnis new.tunnels ≡ true
new-vnis S new none = third_true (is_limit S.overlay.underlay.limits.entries new.limit) (is_ageing new.ageing) (are_vnis new.tunnels) (NothingHolds-from (refusals S new) none).0

abbrev AddsVnis : Effect → Type 0
AddsVnis (Comes new) = are_vnis new.tunnels ≡ true
AddsVnis e = Unit {0}

adds-vnis : (S : Settings) (c : Change) → refused S c ≡ None → AddsVnis (effect c)
adds-vnis S (AddSegment new) none = new-vnis S new none
adds-vnis S c none = tt

Stays-applied : (e : Effect) (S : Settings) → AddsVnis e → Stays (applied e S) S
Stays-applied (ToFlood vid change) S typed = Stays-kept _ S (Keeps-applied (ToFlood vid change) S refl)
Stays-applied (ToBridge vid change) S typed = Stays-kept _ S (Keeps-applied (ToBridge vid change) S refl)
Stays-applied (ToLimit vid limit) S typed = Stays-kept _ S (Keeps-applied (ToLimit vid limit) S refl)
Stays-applied (ToMembers vid port egress) S typed = Stays-kept _ S (Keeps-applied (ToMembers vid port egress) S refl)
Stays-applied (ToPort port up) S typed = Stays-kept _ S (Keeps-applied (ToPort port up) S refl)
Stays-applied (Comes new) S typed = Stays-comes S new typed
Stays-applied (Goes vid) S typed = Stays-goes S vid
Stays-applied ToNothing S typed = Stays-itself S

-- so the same can be sent to
reaches-kept : (S T : Settings) → Keeps S T → (vid : ℕ) (kind : Tunnel) (addr : Addr) → reaches S.overlay vid kind addr ≡ reaches T.overlay vid kind addr
reaches-kept S T k vid kind addr = λ i. is_some (k.tunnels vid kind i) && has_family (own (k.underlay i)) addr

pub if-kept : (S T : Settings) → Keeps S T → (vid : ℕ) (o : Option Place) → is_reached_if S.overlay vid o ≡ is_reached_if T.overlay vid o
if-kept S T k vid None = refl
if-kept S T k vid (Some (Local port)) = refl
if-kept S T k vid (Some (Remote kind addr)) = reaches-kept S T k vid kind addr

abbrev pub reached : Overlay → ℕ → Target → Bool
reached O vid r = reaches O vid r.tunnel r.addr

pub all-kept : (S T : Settings) → Keeps S T → (vid : ℕ) (rs : Entries) → list_all (reached S.overlay vid) rs ≡ list_all (reached T.overlay vid) rs
all-kept S T k vid [] = refl
all-kept S T k vid (r ∷ rs) = λ i. reaches-kept S T k vid r.tunnel r.addr i && all-kept S T k vid rs i

-- ---- a segment's settings

-- its flood list, its tunnels and its members stand in the settings
pub record IsOf (S : Settings) (vid : ℕ) (s : SegmentSettings) : Type 0 where
  pub flood : flood_at S.overlay vid ≡ s.flood
  pub tunnels : (kind : Tunnel) → tunnel_at S.overlay vid kind ≡ of_kind kind s.tunnels
  pub members : members_at S.ports vid ≡ Some s.members

record IsOfParts (g : Option Segment) (o : Option Members) (s : SegmentSettings) : Type 0 where
  flood : option_map_or (λ h. h.flood) g [] ≡ s.flood
  tunnels : (kind : Tunnel) → option_and_then (λ h. tunnel_of h kind) g ≡ of_kind kind s.tunnels
  members : o ≡ Some s.members

of-parts : (bridge : Option BridgeSettings) (g : Option Segment) (members : Option Members) (s : SegmentSettings) → option_and_then (λ b. option_and_then (λ h. option_map (λ m. joined b h m) members) g) bridge ≡ Some s → IsOfParts g members s
of-parts None g members s h = absurd cc
of-parts (Some b) None members s h = absurd cc
of-parts (Some b) (Some g) None s h = absurd cc
of-parts (Some b) (Some g) (Some m) s h = let same : joined b g m ≡ s = cc in subst (IsOfParts (Some g) (Some m)) same (record { flood = refl; tunnels = λ kind. refl; members = refl })

pub is-of : (S : Settings) (vid : ℕ) (s : SegmentSettings) → segment_at S vid ≡ Some s → IsOf S vid s
is-of S vid s h =
    let p = of-parts (S.bridges vid) (under_at S.overlay vid) (members_at S.ports vid) s h in
    record { flood = p.flood; tunnels = p.tunnels; members = p.members }

-- a change that the settings don't refuse
pub Stays-accepted : (S : Settings) (c : Change) → refused S c ≡ None → Stays (accepted S c) S
Stays-accepted S c none = Stays-applied (effect c) S (adds-vnis S c none)
