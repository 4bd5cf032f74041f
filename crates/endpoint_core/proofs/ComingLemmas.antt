-- A frame that comes to a segment comes to one that is there, and from a place that the segment can send to.
use Rattle.std.proofs.Common.{◌≡◌, ℕ, ◌≤◌, Bool, true, false, cond, not, ◌&&◌, ◌||◌, refl, sym, ap, ◌∙◌, subst, Option, Some, None, Ok, List, [], ◌∷◌, length, length-drop, arith}
use Rattle.std.specs.Prelude.{is_some, ◌==◌}
use Rattle.std.specs.List.{list_all}
use Rattle.std.specs.Option.{option_and_then, option_map_or}
use Rattle.std.specs.Cmp.{nat_cmp_total}
use Rattle.std.specs.FinMap.{entries, entries_sorted, get-entries}
use Rattle.std.proofs.lemmas.Bool.{false≢true}
use Rattle.wire.specs.First.{first}
use Rattle.wire.specs.Frame.{Frame, frame_of, frame_behind_tag}
use Rattle.wire.specs.Ether.{has_tag}
use Rattle.wire.proofs.FirstLemmas.{NothingHolds-from, unless-ok, same_Ok}
use Rattle.wire.proofs.RefusalLemmas.{refused-ok}
use Rattle.wire.specs.declared.ip_udp.addr.Addr.{Addr}
use Rattle.wire.specs.declared.ip_udp.addr.Addr.TheVariants.{V4, V6}
use Rattle.wire.specs.declared.ip_udp.addr.Tunnel.{Tunnel}
use Rattle.wire.specs.Addr.{same_kind, same_addr, same_family, is_group}
use Rattle.wire.specs.Ip.{Family, Ip4, Ip6, source, destination}
use Rattle.overlay.specs.Flood.{Entries, has_family, is_own, is_there, own_of, is_entry, holds}
use Rattle.overlay.specs.declared.flood.own.Own.{Own}
use Rattle.overlay.specs.Ports.{Ports, has_segment as has_members}
use Rattle.overlay.specs.Ingress.{enters, reasons, vid_at, frame_in}
use Rattle.overlay.specs.Overlay.{Overlay, has_tunnel, segment_by, segment_at, tunnel_of, tunnel_at, has_segment, flood_at, floods}
use Rattle.overlay.specs.UnderlaySettings.{own}
use Rattle.overlay.specs.declared.underlay.segment.Segment.{Segment}
use Rattle.overlay.proofs.CountLemmas.{found_where}
use Rattle.decapsulate.specs.Arrival.{arrival, arrival_by, arrival_in, outer_reasons, inner_reasons, packet_in, kind_to, vni_of, inner_of}
use Rattle.decapsulate.specs.declared.arrived.Arrived.{Arrived}
use Rattle.endpoint_core.specs.Sound.{reaches}

-- ---- by a local port

-- a text that enters a segment enters one that is there
not-not : (b : Bool) → not b ≡ false → b ≡ true
not-not true h = refl
not-not false h = absurd (false≢true (sym h))

pub entered-there : (ports : Ports) (port : ℕ) (b : List ℕ) (vid : ℕ) (f : Frame) → enters ports port b ≡ Ok (vid, f) → has_members ports vid ≡ true
entered-there ports port b vid f h =
    let found = unless-ok (first (reasons ports port b)) (Ok (vid_at ports port b, frame_in b)) (vid, f) h in
    let none = NothingHolds-from (reasons ports port b) found.0 in
    ap (λ (x : ℕ × Frame). has_members ports x.0) (sym (same_Ok (vid_at ports port b, frame_in b) (vid, f) found.1)) ∙ not-not (has_members ports (vid_at ports port b)) none.1.1.1.1.1.1.1.0

body-short : (b : List ℕ) (tag : Bool) → length (cond tag (frame_behind_tag b) (frame_of b)).body ≤ length b
body-short b true = omega (arith, length-drop 16 b)
body-short b false = omega (arith, length-drop 12 b)

-- and its body is a part of the text
pub entered-short : (ports : Ports) (port : ℕ) (b : List ℕ) (vid : ℕ) (f : Frame) → enters ports port b ≡ Ok (vid, f) → length f.body ≤ length b
entered-short ports port b vid f h =
    let found = unless-ok (first (reasons ports port b)) (Ok (vid_at ports port b, frame_in b)) (vid, f) h in
    subst (λ (x : ℕ × Frame). length x.1.body ≤ length b) (same_Ok (vid_at ports port b, frame_in b) (vid, f) found.1) (body-short b (has_tag b))

-- ---- by a tunnel

kind-from : (S : Overlay) (o : Option Tunnel) (a b : Addr) (d : List ℕ) (x : Arrived) → arrival_by S o a b d ≡ Ok x →
    (kind : Tunnel) × (arrival_in (segment_by S kind (vni_of kind d)) kind a b (inner_of kind d) ≡ Ok x)
kind-from S None a b d x h = absurd cc
kind-from S (Some kind) a b d x h = (kind, h)

pub record Found (S : Overlay) (kind : Tunnel) (src dst : Addr) (vni : ℕ) (x : Arrived) : Type 0 where
  pub segment : Segment
  pub is : segment_by S kind vni ≡ Some (x.vid, segment)
  pub from : x.from ≡ (kind, src)
  pub group : is_group dst && not (floods segment kind dst) ≡ false

found-from : (S : Overlay) (o : Option (ℕ × Segment)) (kind : Tunnel) (src dst : Addr) (vni : ℕ) (e : List ℕ) (x : Arrived) → segment_by S kind vni ≡ o → arrival_in o kind src dst e ≡ Ok x → Found S kind src dst vni x
found-from S None kind src dst vni e x is h = absurd cc
found-from S (Some found) kind src dst vni e x is h =
    let parts = refused-ok (Some found.0) (first (inner_reasons found.1 kind src dst e)) _ x h in
    let none = NothingHolds-from (inner_reasons found.1 kind src dst e) parts.0 in
    let same = same_Ok _ x parts.1 in
    record {
      segment = found.1;
      is = is ∙ ap (λ (y : Arrived). Some (y.vid, found.1)) same;
      from = sym (ap (λ (y : Arrived). y.from) same);
      group = none.0;
    }

there-some : (o : Option (List ℕ)) (b : List ℕ) → is_there o b ≡ true → is_some o ≡ true
there-some None b h = absurd (false≢true h)
there-some (Some c) b h = refl

-- addresses of one family
family-alike : (o : Own) (a b : Addr) → same_family a b ≡ true → has_family o b ≡ true → has_family o a ≡ true
family-alike o (V4 a) (V4 b) s h = h
family-alike o (V4 a) (V6 b) s h = absurd (false≢true s)
family-alike o (V6 a) (V4 b) s h = absurd (false≢true s)
family-alike o (V6 a) (V6 b) s h = h

family-same : (o : Own) (a b : Addr) → same_addr a b ≡ true → has_family o a ≡ true → has_family o b ≡ true
family-same o (V4 a) (V4 b) s h = h
family-same o (V4 a) (V6 b) s h = absurd (false≢true s)
family-same o (V6 a) (V4 b) s h = absurd (false≢true s)
family-same o (V6 a) (V6 b) s h = h

one-family : (f : Family) (r : List ℕ) → same_family (source f r) (destination f r) ≡ true
one-family Ip4 r = refl
one-family Ip6 r = refl

left : (a b : Bool) → a && b ≡ true → a ≡ true
left true b h = refl
left false b h = h

right : (a b : Bool) → a && b ≡ true → b ≡ true
right true b h = h
right false b h = absurd (false≢true h)

-- what a flood list holds is of a family that the endpoint has an address of
held-family : (S : Overlay) (vid : ℕ) (kind : Tunnel) (a : Addr) (entries : Entries) → list_all (λ r. reaches S vid r.tunnel r.addr) entries ≡ true → holds entries kind a ≡ true → has_family (own S.underlay) a ≡ true
held-family S vid kind a [] all h = absurd (false≢true h)
held-family S vid kind a (r ∷ entries) all h = by (held-family S vid kind a entries (right (reaches S vid r.tunnel r.addr) _ all)) (is_entry kind a r) refl h
  where
    by : (holds entries kind a ≡ true → has_family (own S.underlay) a ≡ true) → (b : Bool) → is_entry kind a r ≡ b → b || holds entries kind a ≡ true → has_family (own S.underlay) a ≡ true
    by rest true e k =
        family-same (own S.underlay) r.addr a (right (same_kind r.tunnel kind) _ e)
        (right (is_some (tunnel_at S vid r.tunnel)) _ (left (reaches S vid r.tunnel r.addr) _ all))
    by rest false e k = rest k

-- to a group that is flooded to, or to an own address
for-us : (S : Overlay) (vid : ℕ) (kind : Tunnel) (g : Segment) (a : Addr) → list_all (λ r. reaches S vid r.tunnel r.addr) g.flood ≡ true → not (is_group a || is_own (own S.underlay) a) ≡ false → is_group a && not (floods g kind a) ≡ false →
    has_family (own S.underlay) a ≡ true
for-us S vid kind g a all ours group = by (is_group a) (not-not (is_group a || is_own (own S.underlay) a) ours) group
  where
    by : (b : Bool) → b || is_own (own S.underlay) a ≡ true → b && not (floods g kind a) ≡ false → has_family (own S.underlay) a ≡ true
    by true h k = held-family S vid kind a g.flood all (not-not (floods g kind a) k)
    by false h k = there-some (own_of (own S.underlay) a) _ h

some-if : {A : Type 0} (p : A → Bool) (o : Option A) → option_map_or p o false ≡ true → is_some o ≡ true
some-if p None h = absurd (false≢true h)
some-if p (Some x) h = refl

both : (a b : Bool) → a ≡ true → b ≡ true → a && b ≡ true
both true b h k = k
both false b h k = absurd (false≢true h)

reached-found : (S : Overlay) (kind : Tunnel) (src dst : Addr) (vni : ℕ) (x : Arrived) → ((vid : ℕ) → list_all (λ r. reaches S vid r.tunnel r.addr) (flood_at S vid) ≡ true) → same_family src dst ≡ true →
    not (is_group dst || is_own (own S.underlay) dst) ≡ false → Found S kind src dst vni x → (reaches S x.vid x.from.0 x.from.1 ≡ true) × (has_segment S x.vid ≡ true)
reached-found S kind src dst vni x sound alike ours found =
    let g : Segment = found.segment in
    let at = found_where nat_cmp_total (has_tunnel kind vni) (entries S.segments) (x.vid, g) (entries_sorted S.segments) found.is in
    let is : segment_at S x.vid ≡ Some g = get-entries S.segments x.vid ∙ at.0 in
    let tunnel : is_some (tunnel_at S x.vid kind) ≡ true =
    ap (λ (o : Option Segment). is_some (option_and_then (λ h. tunnel_of h kind) o)) is ∙ some-if (λ t. t.vni == vni) (tunnel_of g kind) at.1 in
    let all : list_all (λ r. reaches S x.vid r.tunnel r.addr) g.flood ≡ true =
    ap (λ (o : Option Segment). list_all (λ r. reaches S x.vid r.tunnel r.addr) (option_map_or (λ h. h.flood) o [])) (sym is) ∙ sound x.vid in
    let family : has_family (own S.underlay) src ≡ true = family-alike (own S.underlay) src dst alike (for-us S x.vid kind g dst all ours found.group) in (
      ap (λ (from : Tunnel × Addr). reaches S x.vid from.0 from.1) found.from ∙ both (is_some (tunnel_at S x.vid kind)) _ tunnel family,
      ap (λ (o : Option Segment). is_some o) is,
    )

-- a packet that arrives comes to a segment that is there, from an endpoint that the segment can send to
pub arrived-reached : (S : Overlay) (b : List ℕ) (x : Arrived) → ((vid : ℕ) → list_all (λ r. reaches S vid r.tunnel r.addr) (flood_at S vid) ≡ true) → arrival S b ≡ Ok x →
    (reaches S x.vid x.from.0 x.from.1 ≡ true) × (has_segment S x.vid ≡ true)
arrived-reached S b x sound h =
    let p = packet_in b in
    let outer = refused-ok None (first (outer_reasons S b)) _ x h in
    let none = NothingHolds-from (outer_reasons S b) outer.0 in
    let kind = kind-from S (kind_to S.underlay p) p.source p.destination _ x outer.1 in
    reached-found S kind.0 p.source p.destination _ x sound (one-family _ _) none.1.1.1.1.1.0
    (found-from S _ kind.0 p.source p.destination _ _ x refl kind.1)
