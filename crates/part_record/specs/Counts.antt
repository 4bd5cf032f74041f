-- Numbers of records by place. It states no standard.
use Rattle.std.specs.Prelude.{◌≤◌, ℕ, zero, suc, slice_index_or}
use Rattle.timeline.specs.declared.source.Tap.{Tap}
use Rattle.timeline.specs.declared.source.Tap.TheVariants as taps
use Rattle.part_record.specs.declared.record_counts.RecordCounts.{RecordCounts}

-- a capture that is counted: of one of 255 ports, or of the underlay
abbrev pub HasCount : Tap → Type 0
HasCount (taps.Port zero) = ⊥
HasCount (taps.Port (suc k)) = suc k ≤ 255
HasCount taps.Underlay = Unit {0}

-- how many records there are of a capture
abbrev pub records_at : RecordCounts → Tap → ℕ
records_at counts (taps.Port zero) = 0
records_at counts (taps.Port (suc k)) = slice_index_or counts.ports k 0
records_at counts taps.Underlay = counts.underlay
