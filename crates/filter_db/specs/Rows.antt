-- A table as a list of rows, each an address and its entry. It states no standard.
use Rattle.std.specs.Prelude.{◌≡◌, ℕ, ◌<◌, ◌≤◌, List, [], ◌∷◌, length, None}
use Rattle.std.specs.FinMap.{find, from_entries}
use Rattle.filter_db.specs.declared.entry.Entry.{Entry}
use Rattle.filter_db.specs.Table.{mac_cmp}
use Rattle.filter_db.specs.Segment.{Segment}

-- the rows, in the order of the list
abbrev pub Rows : Type 0
Rows = List (List ℕ × Entry)

-- no two rows have one address
abbrev pub AreUnique : Rows → Type 0
AreUnique [] = Unit {0}
AreUnique (row ∷ rows) = (find mac_cmp row.0 rows ≡ None) × AreUnique rows

-- a list with room for its limit of rows, and an ageing under which what is new is live
pub record IsSound (limit ageing capacity : ℕ) (rows : Rows) : Type 0 where
  pub unique : AreUnique rows
  pub few : length rows ≤ limit
  pub room : limit ≤ capacity
  pub some_time : 0 < ageing

-- the segment that a limit, an ageing and a list of rows stand for
abbrev pub segment_of : ℕ → ℕ → Rows → Segment
segment_of limit ageing rows = record { limit = limit; ageing = ageing; entries = from_entries rows }
