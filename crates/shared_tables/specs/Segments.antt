-- The tables that the slots stand for. It states no standard.
use Rattle.std.specs.Prelude.{◌≡◌, ℕ, List, [], ◌∷◌, Option, Some, None, nat_eq, if◌then◌else◌}
use Rattle.std.specs.Option.{option_map}
use Rattle.std.specs.FinMap.{from_entries}
use Rattle.std.proofs.Math.Nat.{le_refl}
use Rattle.filter_db.specs.declared.entry.Entry.{Entry}
use Rattle.filter_db.specs.Table.{Table}
use Rattle.filter_db.specs.Segment.{Segment, Segments, aged_all}
use Rattle.filter_db.specs.Rows.{Rows}
use Rattle.filter_db.specs.Ageing.{aged_all-aged_all}
use Rattle.shared_tables.specs.Pool.{Held}
use Rattle.shared_tables.specs.Shared.{Shared, Rule, rule_at}

-- what a table has of what a slot holds
abbrev pub entry_of : Held → Entry
entry_of e = record { place = e.place; last = e.last }

-- the entries of a segment, with their addresses
abbrev pub rows_of : ℕ → List (Option Held) → Rows
rows_of vid [] = []
rows_of vid (None ∷ entries) = rows_of vid entries
rows_of vid (Some e ∷ entries) = if nat_eq e.vid vid then (e.mac, entry_of e) ∷ rows_of vid entries else rows_of vid entries

-- all that is kept of a segment, dead entries included
abbrev pub kept_table : ℕ → List (Option Held) → Table
kept_table vid entries = from_entries (rows_of vid entries)

-- a segment with all that is kept of it
abbrev pub kept_segment : ℕ → List (Option Held) → Rule → Segment
kept_segment vid entries rule = record { limit = rule.limit; ageing = rule.ageing; entries = kept_table vid entries }

-- all segments, dead entries included
abbrev pub kept_segments : Shared → Segments
kept_segments s = λ vid. option_map (kept_segment vid s.entries) (rule_at s.rules vid)

-- the segments, of which only what is live counts
abbrev pub segments_of : Shared → Segments
segments_of s = aged_all s.moment (kept_segments s)

-- what is dead is no part of them
pub settled : (s : Shared) → aged_all s.moment (segments_of s) ≡ segments_of s
settled s = aged_all-aged_all s.moment s.moment (kept_segments s) (le_refl s.moment)
