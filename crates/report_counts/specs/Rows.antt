-- What is counted by sources, by segments, by reasons, and by sources and outlets. It states no standard.
use Rattle.std.specs.Prelude.{ℕ, slice_index}
use Rattle.report_counts.specs.Tables.{added, added_in, count_in, zeros, zero_rows}
use Rattle.report_counts.specs.declared.pairs.Pair.{Pair}
use Rattle.report_counts.specs.declared.pairs.Pairs.{Pairs}
use Rattle.report_counts.specs.declared.reasons.Reasons.{Reasons}
use Rattle.report_counts.specs.declared.segments.SegmentCount.{SegmentCount}
use Rattle.report_counts.specs.declared.segments.Segments.{Segments}
use Rattle.report_counts.specs.declared.sources.Sources.{Sources}

-- ---- sources

-- nothing came yet
abbrev pub no_sources : Sources
no_sources = record { events = zeros 257; spans = zero_rows 64 257 }

-- one event more that came from a source in a span
abbrev pub with_event_from : ℕ → ℕ → Sources → Sources
with_event_from source span s = record { events = added source 1 s.events; spans = added_in source span 1 s.spans }

-- ---- segments

-- nothing happened yet
abbrev pub no_segments : Segments
no_segments = record {
  events = zeros 4095;
  sent = zeros 4095;
  dropped = zeros 4095;
  spans = zero_rows 64 4095;
  dropped_spans = zero_rows 64 4095;
}

-- what happened in a segment
abbrev pub segment_of : Segments → ℕ → SegmentCount
segment_of s segment = record {
  events = slice_index s.events segment;
  sent = slice_index s.sent segment;
  dropped = slice_index s.dropped segment;
}

-- one event more in a segment and a span
abbrev pub with_event_in : ℕ → ℕ → Segments → Segments
with_event_in segment span s = record s { events = added segment 1 s.events; spans = added_in segment span 1 s.spans }

-- one outcome more that left
abbrev pub with_sent_in : ℕ → Segments → Segments
with_sent_in segment s = record s { sent = added segment 1 s.sent }

-- one event more that was dropped
abbrev pub with_drop_in : ℕ → ℕ → Segments → Segments
with_drop_in segment span s =
    record s { dropped = added segment 1 s.dropped; dropped_spans = added_in segment span 1 s.dropped_spans }

-- ---- reasons

-- none was met yet
abbrev pub no_reasons : Reasons
no_reasons = record { dropped = zero_rows 41 4095; unsent = zero_rows 41 4095; spans = zero_rows 64 41; all = zeros 41 }

-- one event more in a segment that was dropped for a reason
abbrev pub with_drop_for : ℕ → ℕ → ℕ → Reasons → Reasons
with_drop_for segment reason span r =
    record r { dropped = added_in segment reason 1 r.dropped; spans = added_in reason span 1 r.spans; all = added reason 1 r.all }

-- one outcome more in a segment that wasn't sent for a reason
abbrev pub with_unsent_for : ℕ → ℕ → ℕ → Reasons → Reasons
with_unsent_for segment reason span r =
    record r { unsent = added_in segment reason 1 r.unsent; spans = added_in reason span 1 r.spans; all = added reason 1 r.all }

-- ---- sources and outlets

-- none yet
abbrev pub no_pairs : Pairs
no_pairs = record { frames = zero_rows 513 257; octets = zero_rows 513 257 }

-- what came from a source and left at an outlet
abbrev pub pair_of : Pairs → ℕ → ℕ → Pair
pair_of p source outlet = record { frames = count_in source outlet p.frames; octets = count_in source outlet p.octets }

-- one frame more, of so many octets
abbrev pub with_pair : ℕ → ℕ → ℕ → Pairs → Pairs
with_pair source outlet octets p = record {
  frames = added_in source outlet 1 p.frames;
  octets = added_in source outlet octets p.octets;
}
