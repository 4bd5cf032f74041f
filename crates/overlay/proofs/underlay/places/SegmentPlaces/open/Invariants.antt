use Rattle.std.proofs.Common.{◌≡◌, replicate, None}
use Rattle.overlay.proofs.underlay.places.SegmentPlaces.open.Given as goal

abbrev pub invariant-loop-number : goal.invariant-loop-number
invariant-loop-number l = l.index.items ≡ replicate l._number None

abbrev pub invariant-loop-place : goal.invariant-loop-place
invariant-loop-place l = (l.index.items ≡ replicate 4096 None) × (l.rows.items ≡ replicate l._place None)
