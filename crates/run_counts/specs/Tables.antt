-- The tables that the parts of a run told, side by side. It states no standard.
--     IsOf, IsRow, row_text      a line of a segment
--     AreRows      a text of such lines
--     IsFirstOther, Refuses      the first line of a text that is none
--     side_by_side      the lines of all parts
use Rattle.std.specs.Prelude.{◌≡◌, ◌≢◌, ⊤, ℕ, ◌+◌, ◌<◌, ◌==◌, true, List, [], ◌∷◌, ◌++◌, All, codes, decimal, length, Some, if◌then◌else◌}
use Rattle.std.specs.List.{flat_map}
use Rattle.wire.specs.Tag.{IsVid}
use Rattle.segment_set.specs.Segments.{Segments, holds}
use Rattle.table_lines.specs.Lines.{vids}
use Rattle.run_counts.specs.declared.parts.tables_fault.TablesFault.{TablesFault}
use Rattle.run_counts.specs.declared.parts.tables_fault.TablesFault.TheVariants.{Line, OutOfMemory}
use Rattle.run_counts.specs.declared.parts.table_row.TableRow.{TableRow}

-- a line that begins with its segment, and tells something of it: `segment 10 02:00:00:00:00:07 p2 fixed`
pub record IsOf (vid : ℕ) (line : List ℕ) : Type 0 where
  pub told : List ℕ
  pub some : 0 < length told
  pub begins : line ≡ codes "segment " ++ decimal vid ++ 32 ∷ told

-- the row of such a line, without a line feed, of a segment that is asked for
pub record IsRow (segments : Segments) (row : TableRow) : Type 0 where
  pub vid : IsVid row.vid
  pub own : holds segments (Some row.vid) ≡ true
  pub line : IsOf row.vid row.line.now
  pub one : All (λ c. c ≢ 10) row.line.now

-- its line with a line feed behind
abbrev pub row_text : TableRow → List ℕ
row_text row = row.line.now ++ 10 ∷ []

-- a text is the lines of these rows, one behind another
pub record AreRows (segments : Segments) (rows : List TableRow) (text : List ℕ) : Type 0 where
  pub each : All (IsRow segments) rows
  pub lines : text ≡ flat_map row_text rows

-- a text begins with no such line
abbrev pub BeginsWithNone : Segments → List ℕ → Type 0
BeginsWithNone segments text = (row : TableRow) (behind : List ℕ) → IsRow segments row → text ≡ row_text row ++ behind → ⊥

-- the line of this number, from 1, is the first that is none
pub record IsFirstOther (segments : Segments) (line : ℕ) (text : List ℕ) : Type 0 where
  pub rows : List TableRow
  pub front : List ℕ
  pub rest : List ℕ
  pub before : AreRows segments rows front
  pub count : line ≡ length rows + 1
  pub both : text ≡ front ++ rest
  pub some : 0 < length rest
  pub none : BeginsWithNone segments rest

-- why a text is refused: memory was, or that line is the first that is none
abbrev pub Refuses : Segments → TablesFault → List ℕ → Type 0
Refuses segments OutOfMemory text = ⊤
Refuses segments (Line line) text = IsFirstOther segments line text

-- a law: a text with such a line is the lines of no rows
abbrev pub HasNoRows : Type 0
HasNoRows = (segments : Segments) (line : ℕ) (text : List ℕ) (rows : List TableRow)
    → IsFirstOther segments line text → AreRows segments rows text → ⊥

-- ---- side by side

-- the lines of a segment, in their order
abbrev pub lines_of : List TableRow → ℕ → List ℕ
lines_of rows vid = flat_map (λ (row : TableRow). if row.vid == vid then row_text row else []) rows

-- those of all segments, the VIDs rising
abbrev pub side_by_side : List TableRow → List ℕ
side_by_side rows = flat_map (lines_of rows) vids
