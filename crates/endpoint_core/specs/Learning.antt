-- Which segments learn. It states no standard.
use Rattle.std.specs.Prelude.{ℕ, ◌==◌, Bool, false, ◌&&◌, List, slice_index_or}
use Rattle.std.specs.List.{list_any}
use Rattle.overlay.specs.declared.settings.segment.SegmentRule.{SegmentRule}

-- the segment of this VID learns; at the place of each VID stands whether it does
abbrev pub learns : List Bool → ℕ → Bool
learns learning vid = slice_index_or learning vid false

-- one of these rules says that the segment of this VID learns
abbrev pub tells_learning : List SegmentRule → ℕ → Bool
tells_learning rules vid = list_any (λ rule. vid == rule.vid && rule.learning) rules
