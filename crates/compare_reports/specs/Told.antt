-- What is told of two captures besides counts, while they are compared. It states no standard.
--     table_with       a table, once a fact was told
--     PrintsTable      what a table prints
--     segments_with    records by their segments, once a fact was told
--     segments_texts   the lines that they print
--     differences_texts   those of what of near records differs
use Rattle.std.specs.Prelude.{◌≡◌, ◌<◌, ◌==◌, ◌&&◌, ◌||◌, ◌^◌, ℕ, ◌+◌, if◌then◌else◌, Bool, true, codes, length, zero, suc}
use Rattle.std.specs.Str.{bytes_eq}
use Rattle.clap.specs.Words.{Text}
use Rattle.std.specs.Prelude.{List, [], ◌∷◌, ◌++◌, map, Option, None, Some, option_map, replicate, IsSomeAnd}
use Rattle.std.specs.List.{FoldsTo}
use Rattle.timeline.specs.declared.source.Tap.{Tap}
use Rattle.timeline.specs.declared.source.Tap.TheVariants as taps
use Rattle.record_match.specs.Delays.{Delays, IsOf, IsTold, delays_with, no_delays}
use Rattle.record_match.specs.Lengths.{no_row, with_fact as row_with_fact}
use Rattle.record_match.specs.Settled.{Fact}
use Rattle.record_match.specs.declared.tables.delays.DelaySummary.{DelaySummary}
use Rattle.record_match.specs.declared.tables.lengths.LengthRow.{LengthRow}
use Rattle.overlay.specs.Settings.{Settings}
use Rattle.capture_compare.specs.Counting.{row_at, with_fact}
use Rattle.capture_compare.specs.Counts.{counts_text, is_none, no_counts}
use Rattle.capture_compare.specs.Differing.{Counted, Differing}
use Rattle.capture_compare.specs.Lonely.{difference_line, others_line}
use Rattle.capture_compare.specs.Segments.{index_of, tunnels_of}
use Rattle.capture_compare.specs.Tables.{delays_text, length_line}
use Rattle.capture_compare.specs.declared.lines.counts.Counts.{Counts}
use Rattle.capture_compare.specs.declared.lines.counts.Scope.{Scope}
use Rattle.capture_compare.specs.declared.lines.counts.Scope.TheVariants as scopes
use Rattle.capture_compare.specs.declared.carried.tunnels.Tunnels.{Tunnels}
use Rattle.capture_compare.specs.declared.carried.key.Sameness.{Sameness}
use Rattle.capture_compare.specs.declared.carried.key.Sameness.TheVariants.{Carried, Whole}
use Rattle.capture_compare.specs.declared.lonely.pairs.DifferenceRow.{DifferenceRow}
use Rattle.capture_compare.specs.declared.segments.reading.PlaceReading.{PlaceReading}
use Rattle.capture_compare.specs.declared.segments.reading.PlaceReading.TheVariants as readings
use Rattle.capture_compare.specs.declared.segments.counting.SegmentCounts.{SegmentCounts}
use Rattle.compare_reports.specs.Prints.{Prints, unless}
use Rattle.compare_reports.specs.declared.segments.Segments.{Segments}
use Rattle.compare_reports.specs.declared.tables.Table.{Table}
use Rattle.compare_reports.specs.declared.tables.Table.TheVariants as tables
use Rattle.compare_reports.specs.declared.tables.TableBy.{TableBy}
use Rattle.compare_reports.specs.declared.tables.TableBy.TheVariants as names

-- ---- tables

-- a table of no records, where one is asked for: of delays in this time, on a clock that is so much ahead
abbrev pub no_table : Option TableBy → ℕ → ℕ → Table
no_table None within ahead = tables.None
no_table (Some names.Length) within ahead = tables.Length (replicate 262657 no_row)
no_table (Some names.Delay) within ahead = tables.Delay (no_delays within) ahead

-- a table has this name
abbrev pub is_table_name : Text → Bool
is_table_name name = bytes_eq name (codes "length") || bytes_eq name (codes "delay")

-- the one that has a name
abbrev pub table_named : Text → Option TableBy
table_named name =
    if bytes_eq name (codes "length") then Some names.Length
    else if bytes_eq name (codes "delay") then Some names.Delay
    else None

abbrev pub table_by : Option Text → Option TableBy
table_by None = None
table_by (Some name) = table_named name

-- once a fact was told
abbrev pub table_with : Fact → Table → Table
table_with fact tables.None = tables.None
table_with fact (tables.Length rows) = tables.Length (row_with_fact fact rows)
table_with fact (tables.Delay delays ahead) = tables.Delay (delays_with fact delays) ahead

-- a row counts no record
abbrev pub is_empty_row : LengthRow → Bool
is_empty_row row = (row.both == 0 && row.sent_alone == 0) && row.received_alone == 0

-- the line of a length, where it occurs
abbrev pub length_text : Option Tap → ℕ → LengthRow → Option (List ℕ)
length_text at n row = unless (is_empty_row row) (length_line at n row)

-- those of some rows, the first of which is that of so many octets
abbrev pub length_texts : Option Tap → ℕ → List LengthRow → List (Option (List ℕ))
length_texts at n [] = []
length_texts at n (row ∷ rows) = length_text at n row ∷ length_texts at (n + 1) rows

-- a summary is that of the delays that a table is of
abbrev pub IsSummed : ℕ → List ℕ → Option DelaySummary → Type 0
IsSummed within delays summary = length delays < 2 ^ 64 → IsTold within delays summary

module _ {P : Type 0} (prints : P → List ℕ → P → Type 0) where
  -- what one of delays prints, on a clock that is so much ahead: the lines of a summary of all delays that it is of
  pub record PrintsDelays (at : Option Tap) (table : Delays) (ahead : ℕ) (old new : P) : Type 0 where
    pub summary : Option DelaySummary
    pub is_told : (within : ℕ) (delays : List ℕ) → IsOf within table delays → IsSummed within delays summary
    pub printed : prints old (delays_text at ahead summary) new

  -- what a table prints: a line for each length that occurs, rising, or those of delays
  abbrev pub PrintsTable : Option Tap → Table → P → P → Type 0
  PrintsTable at tables.None old new = new ≡ old
  PrintsTable at (tables.Length rows) old new = FoldsTo (Prints prints) old (length_texts at 0 rows) new
  PrintsTable at (tables.Delay table ahead) old new = PrintsDelays at table ahead old new

-- ---- segments

-- those of settings, of which no record was told
abbrev pub AreOf : Settings → Segments → Type 0
AreOf settings s = IsSomeAnd s.counts (λ c. (c.index ≡ index_of settings) × (c.rows ≡ replicate 4095 no_counts))

-- the tunnels of settings, or else those of the standards (RFC 7348, 5; RFC 8926, 3.3): no critical option is known, and a checksum
-- that is left to a card is taken
abbrev pub standard : Tunnels
standard = record { vxlan_port = 4789; geneve_port = 6081; known = []; partial = true }

abbrev pub tunnels_in : Segments → Tunnels
tunnels_in s = elim s.counts [ Some c ↦ tunnels_of c.index.overlay.underlay | None ↦ standard ]

-- how records of a place are read
abbrev pub reading_at : Tap → Sameness → PlaceReading
reading_at (taps.Port port) sameness = readings.Port port
reading_at taps.Underlay (Carried tunnels) = readings.Keys
reading_at taps.Underlay Whole = readings.Packets

-- the same counts, where records are read so from now on
abbrev pub read_as : PlaceReading → SegmentCounts → SegmentCounts
read_as reading c = record c { reading = reading }

-- those that are told from now on are of a place
abbrev pub standing_at : Tap → Sameness → Segments → Segments
standing_at tap sameness s = record { counts = option_map (read_as (reading_at tap sameness)) s.counts }

-- once a fact was told
abbrev pub segments_with : Fact → Segments → Segments
segments_with fact s = record { counts = option_map (with_fact fact) s.counts }

-- the line of a row that counts any record
abbrev pub row_text : Scope → Counts → Option (List ℕ)
row_text scope counts = unless (is_none counts) (counts_text scope counts)

-- those of the first segments, by VID from 1
unfoldable pub first_texts : ℕ → List Counts → List (Option (List ℕ))
first_texts zero rows = []
first_texts (suc n) rows = first_texts n rows ++ row_text (scopes.Segment (suc n)) (row_at rows (Some (suc n))) ∷ []

-- those of all segments, rising by VID, and that of the records of none as the last
abbrev pub rows_texts : List Counts → List (Option (List ℕ))
rows_texts rows = first_texts 4094 rows ++ row_text scopes.NoSegment (row_at rows None) ∷ []

-- where settings say which there are
abbrev pub segments_texts : Segments → List (Option (List ℕ))
segments_texts s = elim s.counts [ Some c ↦ rows_texts c.rows | None ↦ [] ]

-- ---- what of near records differs

abbrev pub difference_text : Option Tap → DifferenceRow → Option (List ℕ)
difference_text at row = Some (difference_line at row)

-- a line for each segment and difference, and one for all others, where there are any
abbrev pub counted_texts : Option Tap → Counted → List (Option (List ℕ))
counted_texts at c = map (difference_text at) c.rows ++ unless (c.others == 0) (others_line at c.others) ∷ []

-- where they are looked for
abbrev pub differences_texts : Option Tap → Option Differing → List (Option (List ℕ))
differences_texts at None = []
differences_texts at (Some d) = counted_texts at d.counted
