-- How the values that contracts see of the segments are stored. It states no standard.
use Rattle.std.specs.Prelude.{ℕ, refl}
use Rattle.std.specs.Coded.{Coded, code_by, coded×, coded_ℕ}
use Rattle.std.specs.FinMap.{code}
use Rattle.overlay.specs.declared.underlay.settings.Underlay.{Underlay}
use Rattle.std.specs.Ordering.{nat_cmp}
use Rattle.std.specs.FinMap.{FinMap}
use Rattle.overlay.specs.contracts.underlay.heads.SegmentHeads as heads
use Rattle.overlay.specs.contracts.underlay.segment.Segment as segment
use Rattle.overlay.specs.contracts.underlay.settings.Underlay as settings
use Rattle.overlay.specs.declared.underlay.heads.SegmentHeads.{SegmentHeads}
use Rattle.overlay.specs.Overlay.{Overlay, Segments}
use Rattle.overlay.specs.Index.{Index, Listed}
use Rattle.overlay.specs.Seats.{Seats}

-- segments are stored as pairs of a VID and a segment
abbrev pub segments_code : Coded Segments
segments_code = code coded_ℕ segment.the_row.coded

-- an overlay is stored as the pair of both
abbrev pub overlay_code : Coded Overlay
overlay_code =
    code_by (Underlay × Segments) (coded× settings.the_row.coded segments_code)
    (λ s. (s.underlay, s.segments)) (λ p. record { underlay = p.0; segments = p.1 }) (λ _. refl)

-- heads are stored as pairs of a VID and the heads of its packets
abbrev pub heads_code : Coded (FinMap nat_cmp SegmentHeads)
heads_code = code coded_ℕ heads.the_row.coded

-- segments with their heads, and the numbers for which there is room, are stored as its four parts
abbrev pub seats_code : Coded Seats
seats_code =
    code_by (Segments × (FinMap nat_cmp SegmentHeads × (ℕ × ℕ))) (coded× segments_code (coded× heads_code (coded× coded_ℕ coded_ℕ)))
    (λ s. (s.segments, (s.heads, (s.most, s.flood))))
    (λ p. record { segments = p.0; heads = p.1.0; most = p.1.1.0; flood = p.1.1.1 }) (λ _. refl)

-- an index of VIDs by VNIs, and the number for which there is room, are stored as a pair
abbrev pub listed_code : Coded Listed
listed_code =
    code_by (Index × ℕ) (coded× (code coded_ℕ coded_ℕ) coded_ℕ)
    (λ l. (l.vids, l.most)) (λ p. record { vids = p.0; most = p.1 }) (λ _. refl)
