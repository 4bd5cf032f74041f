-- The tables of the parts of a run and those of the whole run. It states no standard.
--     HasLines      tables of which each entry is told in one line
--     AreWhole      a law on the parts' rows
use Rattle.std.specs.Prelude.{◌≡◌, ◌≢◌, ℕ, Bool, List, All, Some, count_by}
use Rattle.std.specs.FinMap.{entries}
use Rattle.std.specs.List.{AllZip, flat_map}
use Rattle.wire.specs.Tag.{IsVid}
use Rattle.segment_set.specs.Segments.{Segments, holds}
use Rattle.segment_set.specs.Segments as segments
use Rattle.filter_db.specs.declared.entry.Entry.{Entry}
use Rattle.endpoint_core.specs.Step.{State, has_two_tunnels}
use Rattle.endpoint_core.specs.Text.{place_text}
use Rattle.table_lines.specs.Lines.{seen_text, tables_text}
use Rattle.run_counts.specs.Tables.{AreRows, side_by_side}
use Rattle.run_counts.specs.declared.parts.table_row.TableRow.{TableRow}

-- no line feed stands in what is told of an entry
abbrev pub IsToldInLine : Bool → ℕ → List ℕ × Entry → Type 0
IsToldInLine two_tunnels now row = All (λ c. c ≢ 10) (place_text two_tunnels row.1.place)
    × All (λ c. c ≢ 10) (seen_text now row.1.last)

-- nor in that of any entry
abbrev pub HasLines : State → Type 0
HasLines s = (vid : ℕ) → All (IsToldInLine (has_two_tunnels s.bridges.settings.overlay vid) s.moment) (entries (s.bridges.tables vid))

-- a law: where the rows of each part are those of its own segments' tables, and each segment is in one part, all of them side
-- by side are the tables of the whole run
abbrev pub AreWhole : Type 0
AreWhole = (s : State) (parts : List Segments) (told : List (List TableRow)) → HasLines s
    → AllZip (λ part rows. AreRows part rows (tables_text part s)) parts told
    → ((vid : ℕ) → IsVid vid → count_by (λ part. holds part (Some vid)) parts ≡ 1)
    → side_by_side (flat_map (λ rows. rows) told) ≡ tables_text segments.All s
