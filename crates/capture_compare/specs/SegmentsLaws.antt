-- A law of what is counted by segments. It states no standard.
use Rattle.std.specs.Prelude.{◌≡◌, ◌<◌, ◌^◌, ◌==◌, ◌&&◌, ℕ, Bool, true, false, List, length, slice_index_or}
use Rattle.std.specs.List.{FoldsTo, count_by}
use Rattle.record_match.specs.Settled.{Fact, Both, ReceivedAlone, SentAlone}
use Rattle.capture_compare.specs.Counts.{no_counts, sums_of}
use Rattle.capture_compare.specs.declared.lines.counts.Counts.{Counts}
use Rattle.capture_compare.specs.Counting.{record_of, row_number, with_fact}
use Rattle.capture_compare.specs.Segments.{Index, segment_at}
use Rattle.capture_compare.specs.declared.segments.counting.SegmentCounts.{SegmentCounts}
use Rattle.capture_compare.specs.declared.segments.reading.PlaceReading.{PlaceReading}

-- the record of a fact was sent
abbrev pub was_sent : Fact → Bool
was_sent (Both moment number r) = true
was_sent (ReceivedAlone number r) = false
was_sent (SentAlone number r) = true

-- it was received
abbrev pub was_received : Fact → Bool
was_received (Both moment number r) = true
was_received (ReceivedAlone number r) = true
was_received (SentAlone number r) = false

-- it is both
abbrev pub is_both : Fact → Bool
is_both (Both moment number r) = true
is_both (ReceivedAlone number r) = false
is_both (SentAlone number r) = false

-- its segment has the row of this number
abbrev pub is_in_row : Index → PlaceReading → ℕ → Fact → Bool
is_in_row i reading n fact = row_number (segment_at i reading (record_of fact)) == n

-- how many of some facts are of records of that row
abbrev pub facts_in_row : Index → PlaceReading → ℕ → List Fact → Counts
facts_in_row i reading n facts = record {
  sent = count_by (λ fact. was_sent fact && is_in_row i reading n fact) facts;
  received = count_by (λ fact. was_received fact && is_in_row i reading n fact) facts;
  both = count_by (λ fact. is_both fact && is_in_row i reading n fact) facts;
}

-- counts of 64 bits
pub record AreCounts (c : Counts) : Type 0 where
  pub sent : c.sent < 2 ^ 64
  pub received : c.received < 2 ^ 64
  pub both : c.both < 2 ^ 64

-- what is told, one fact after another, adds to each row as many as these facts have records of it
abbrev pub EachRowCountsItsFacts : Type 0
EachRowCountsItsFacts =
    (old new : SegmentCounts) (facts : List Fact) (n : ℕ) → length old.rows ≡ 4095 → n < 4095
    → AreCounts (slice_index_or old.rows n no_counts) → FoldsTo (λ old fact new. new ≡ with_fact fact old) old facts new
    → slice_index_or new.rows n no_counts
    ≡ sums_of (slice_index_or old.rows n no_counts) (facts_in_row old.index old.reading n facts)
