-- Records that are compared, counted in rows by their segments. It states no standard.
--     with_fact      what was counted, once a fact was told
use Rattle.std.specs.Prelude.{ℕ, List, set, slice_index_or, Option, Some, None}
use Rattle.record_match.specs.Match.{Record}
use Rattle.record_match.specs.Settled.{Fact, Both, ReceivedAlone, SentAlone}
use Rattle.capture_compare.specs.Counts.{no_counts, sums_of}
use Rattle.capture_compare.specs.declared.lines.counts.Counts.{Counts}
use Rattle.capture_compare.specs.Segments.{segment_at}
use Rattle.capture_compare.specs.declared.segments.counting.SegmentCounts.{SegmentCounts}

-- the row of a segment by its VID, or of none
abbrev pub row_number : Option ℕ → ℕ
row_number None = 0
row_number (Some vid) = vid

abbrev pub row_at : List Counts → Option ℕ → Counts
row_at rows segment = slice_index_or rows (row_number segment) no_counts

-- with counts added to those of a segment, and to no others
abbrev pub rows_with : Option ℕ → Counts → List Counts → List Counts
rows_with segment counts rows = set rows (row_number segment) (sums_of (row_at rows segment) counts)

-- what one record adds: it was sent, was received, or is both
abbrev pub counts_of : Fact → Counts
counts_of (Both moment number r) = record { sent = 1; received = 1; both = 1 }
counts_of (ReceivedAlone number r) = record { sent = 0; received = 1; both = 0 }
counts_of (SentAlone number r) = record { sent = 1; received = 0; both = 0 }

-- that record
abbrev pub record_of : Fact → Record
record_of (Both moment number r) = r
record_of (ReceivedAlone number r) = r
record_of (SentAlone number r) = r

-- with counts added to those of the segment of a record
abbrev pub with_record : Record → Counts → SegmentCounts → SegmentCounts
with_record r counts c = record c { rows = rows_with (segment_at c.index c.reading r) counts c.rows }

abbrev pub with_fact : Fact → SegmentCounts → SegmentCounts
with_fact fact c = with_record (record_of fact) (counts_of fact) c
