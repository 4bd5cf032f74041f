-- The VNIs of settings that keep to the rules have 24 bits.
use Rattle.std.proofs.Common.{◌≡◌, ℕ, ◌≤◌, Bool, true, false, cond, refl, sym, ap, ◌∙◌, subst, Option, Some, None, List, [], ◌∷◌, ◌++◌, length, map, arith}
use Rattle.std.specs.Prelude.{◌==◌}
use Rattle.std.specs.Ordering.{nat_cmp}
use Rattle.std.specs.FinMap.{get, from_entries, get-empty}
use Rattle.wire.specs.declared.ip_udp.addr.Tunnel.{Tunnel}
use Rattle.wire.specs.Addr.{same_kind}
use Rattle.wire.specs.Vxlan.{IsVni}
use Rattle.overlay.proofs.PlacesLemmas.{get-insert_at}
use Rattle.overlay.specs.declared.flood.own.Own.{Own}
use Rattle.overlay.specs.declared.underlay.segment.Segment.{Segment}
use Rattle.overlay.specs.declared.underlay.tunnels.SegmentTunnel.{SegmentTunnel}
use Rattle.overlay.specs.Overlay.{Segments, segment_of, tunnel_at, tunnel_of}
use Rattle.overlay.specs.UnderlaySettings.{own}
use Rattle.overlay.specs.Tunnels.{of_kind}
use Rattle.overlay.specs.declared.settings.segment.SegmentRule.{SegmentRule}
use Rattle.overlay.specs.Rules.{EachBehind, IsTunnel, IsSegment, MeetsRules}
use Rattle.overlay.specs.Settings.{Settings as Told, tunnel_rule}
use Rattle.endpoint_core.specs.Opened.{settings_told}

found-vni : (earlier tunnels : List SegmentTunnel) (kind : Tunnel) (t : SegmentTunnel) → EachBehind IsTunnel earlier tunnels → of_kind kind tunnels ≡ Some t → IsVni t.vni
found-vni earlier [] kind t each h = absurd cc
found-vni earlier (u ∷ tunnels) kind t each h = by (same_kind u.kind kind) (found-vni (earlier ++ u ∷ []) tunnels kind t each.1) h
  where
    below : {n : ℕ} → n ≤ 16777215 → IsVni n
    below l = omega arith

    by : (b : Bool) → (of_kind kind tunnels ≡ Some t → IsVni t.vni) → cond b (Some u) (of_kind kind tunnels) ≡ Some t → IsVni t.vni
    by true rest h = let same : u ≡ t = cc in subst (λ (x : SegmentTunnel). IsVni x.vni) same (below each.0.0.1)
    by false rest h = rest h

-- the segments that rules tell, each by its VID
abbrev by-vid : List SegmentRule → Segments
by-vid rules = from_entries (map (λ r. (r.vid, segment_of r)) (map tunnel_rule rules))

-- of the segment of a VID
told-vni : (o : Own) (most n : ℕ) (earlier rules : List SegmentRule) (vid : ℕ) (g : Segment) (kind : Tunnel) (t : SegmentTunnel) → EachBehind (IsSegment o most n) earlier rules → get (by-vid rules) vid ≡ Some g → tunnel_of g kind ≡ Some t → IsVni t.vni
told-vni o most n earlier [] vid g kind t each is h = absurd (let none : get (by-vid []) vid ≡ None = get-empty nat_cmp vid in cc)
told-vni o most n earlier (r ∷ rules) vid g kind t each is h =
    by (vid == r.vid) (told-vni o most n (earlier ++ r ∷ []) rules vid g kind t each.1) (sym (get-insert_at (by-vid rules) r.vid (segment_of (tunnel_rule r)) vid) ∙ is)
  where
    by : (b : Bool) → (get (by-vid rules) vid ≡ Some g → tunnel_of g kind ≡ Some t → IsVni t.vni) → cond b (Some (segment_of (tunnel_rule r))) (get (by-vid rules) vid) ≡ Some g → IsVni t.vni
    by true rest e = let same : segment_of (tunnel_rule r) ≡ g = cc in found-vni [] r.tunnels kind t each.0.tunnels (ap (λ (x : Segment). tunnel_of x kind) same ∙ h)
    by false rest e = rest e h

some-of : (o : Option Segment) (kind : Tunnel) (t : SegmentTunnel) → elim o as (λ _. Option SegmentTunnel) [ None ↦ None | Some g ↦ tunnel_of g kind ] ≡ Some t → (g : Segment) × (o ≡ Some g) × (tunnel_of g kind ≡ Some t)
some-of None kind t h = absurd cc
some-of (Some g) kind t h = (g, refl, h)

pub vnis-told : (s : Told) → MeetsRules s → (vid : ℕ) (kind : Tunnel) (t : SegmentTunnel) → tunnel_at (settings_told s).overlay vid kind ≡ Some t → IsVni t.vni
vnis-told s rules vid kind t h =
    let found = some-of (get (settings_told s).overlay.segments vid) kind t h in
    told-vni (own s.underlay) s.underlay.limits.flood (length s.ports) [] s.segments vid found.0 kind t rules.segments found.1 found.2
