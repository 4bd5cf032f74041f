-- The segment of a VNI is found by the tunnels of all segments.
use Rattle.std.proofs.Common.{◌≡◌, ℕ, ◌==◌, Bool, true, false, List, Option, Some, None, refl, sym, ap, ◌∙◌}
use Rattle.std.specs.List.{find as find_where}
use Rattle.std.specs.Option.{option_map, option_map_or}
use Rattle.std.specs.Ordering.{nat_cmp}
use Rattle.std.specs.Cmp.{nat_cmp_total}
use Rattle.std.specs.FinMap.{entries, entries_sorted, get-entries, nat_cmp-IsAntisymmetric}
use Rattle.std.proofs.lemmas.Bool.{false≢true, eqb-true}
use Rattle.std.proofs.lemmas.Option.{none-some, same_Some}
use Rattle.wire.specs.declared.ip_udp.addr.Tunnel.{Tunnel}
use Rattle.overlay.specs.Overlay.{Overlay, segment_at, segment_by, has_tunnel}
use Rattle.overlay.specs.Tunnels.{of_kind}
use Rattle.overlay.specs.declared.underlay.segment.Segment.{Segment}
use Rattle.overlay.specs.declared.underlay.tunnels.SegmentTunnel.{SegmentTunnel}
use Rattle.overlay.proofs.CountLemmas.{found_where}
use Rattle.noninterference.specs.Alone.{is_segment}
use Rattle.noninterference.proofs.Shorts.{short, find_short, same_shorts}

abbrev pub tunnels : Segment → List SegmentTunnel
tunnels g = g.tunnels

-- the tunnels of the segment of a VID
abbrev pub tunnels_at : Overlay → ℕ → Option (List SegmentTunnel)
tunnels_at S w = option_map tunnels (segment_at S w)

-- one of these has this VNI
abbrev has : Tunnel → ℕ → List SegmentTunnel → Bool
has kind vni ts = option_map_or (λ t. t.vni == vni) (of_kind kind ts) false

-- what is found stands there
pub found_at : (S : Overlay) (kind : Tunnel) (vni : ℕ) (e : ℕ × Segment) → segment_by S kind vni ≡ Some e → segment_at S e.0 ≡ Some e.1
found_at S kind vni e is = get-entries S.segments e.0 ∙ (found_where nat_cmp_total (has_tunnel kind vni) (entries S.segments) e (entries_sorted S.segments) is).0

-- the VID and the tunnels of what is found are told by all tunnels
pub found_short : (S T : Overlay) → ((w : ℕ) → tunnels_at S w ≡ tunnels_at T w) → (kind : Tunnel) (vni : ℕ) → option_map (short tunnels) (segment_by S kind vni) ≡ option_map (short tunnels) (segment_by T kind vni)
found_short S T alike kind vni =
    find_short tunnels (has kind vni) (entries S.segments)
    ∙ ap (find_where (λ (e : ℕ × List SegmentTunnel). has kind vni e.1)) (same_shorts tunnels nat_cmp nat_cmp_total nat_cmp-IsAntisymmetric S.segments T.segments alike)
    ∙ sym (find_short tunnels (has kind vni) (entries T.segments))

-- what is found at a VID where both have the same segment
pub found-same : (vid : ℕ) (S T : Overlay) → ((w : ℕ) → tunnels_at S w ≡ tunnels_at T w) → segment_at S vid ≡ segment_at T vid → (kind : Tunnel) (vni : ℕ) → is_segment vid (option_map (λ e. e.0) (segment_by S kind vni)) ≡ true → segment_by T kind vni ≡ segment_by S kind vni
found-same vid S T alike here kind vni own = by (segment_by S kind vni) (segment_by T kind vni) refl refl own
  where
    by : (o p : Option (ℕ × Segment)) → segment_by S kind vni ≡ o → segment_by T kind vni ≡ p → is_segment vid (option_map (λ e. e.0) o) ≡ true → segment_by T kind vni ≡ segment_by S kind vni
    by None p found other is = absurd (false≢true is)
    by (Some e) None found other is = absurd (none-some (short tunnels e) (sym (ap (option_map (short tunnels)) other) ∙ sym (found_short S T alike kind vni) ∙ ap (option_map (short tunnels)) found))
    by (Some e) (Some f) found other is =
        let key : e.0 ≡ f.0 = ap (λ (s : ℕ × List SegmentTunnel). s.0) (same_Some (short tunnels e) (short tunnels f) (sym (ap (option_map (short tunnels)) found) ∙ found_short S T alike kind vni ∙ ap (option_map (short tunnels)) other)) in
        let at : vid ≡ e.0 = eqb-true vid e.0 is in
        let value : e.1 ≡ f.1 = same_Some e.1 f.1 (sym (found_at S kind vni e found) ∙ sym (ap (segment_at S) at) ∙ here ∙ ap (segment_at T) (at ∙ key) ∙ found_at T kind vni f other) in
        other ∙ (λ i. Some (sym key i, sym value i)) ∙ sym found
