-- The tables of all segments, and what becomes of them. It states no standard. Each VLAN learns by itself (IEEE 802.1Q, 8.8.8, independent
-- VLAN learning).
--     Segment      one table, with its limit and its ageing
--     aged, aged_all      what is left at a moment
--     adjusted      one of them changes
--     learn_in, fix_in and so on      the changes
--     new_segments      they begin empty
use Rattle.std.specs.Prelude.{◌≢◌, ◌≤◌, ℕ, if◌then◌else◌, ◌==◌, List, AllPairs, Option, find}
use Rattle.std.specs.Option.{option_map, unwrap_or}
use Rattle.std.specs.FinMap.{empty}
use Rattle.filter_db.specs.declared.place.Place.{Place}
use Rattle.filter_db.specs.declared.tables.TableRule.{TableRule}
use Rattle.filter_db.specs.Table.{Table, nanoseconds, live, learn, fix, unfix, flush_place, flush}

-- one table, with its rules
pub record Segment : Type 0 where
  -- the most entries that it may have
  pub limit : ℕ
  -- for how many seconds a learned entry is live
  pub ageing : ℕ
  pub entries : Table

-- for each VID its segment, where it has one
abbrev pub Segments : Type 0
Segments = ℕ → Option Segment

-- what is dead at moment t is gone
abbrev pub aged : ℕ → Segment → Segment
aged t s = record s { entries = live (nanoseconds s.ageing) t s.entries }

-- what stands for the segment of a VID that has none
abbrev pub no_segment : Segment
no_segment = record { limit = 0; ageing = 0; entries = empty }

-- all segments at a moment
abbrev pub aged_all : ℕ → Segments → Segments
aged_all t segments = λ vid. option_map (aged t) (segments vid)

-- the segment of a VID; an empty one where it has none
abbrev pub segment_at : ℕ → Segments → Segment
segment_at vid segments = unwrap_or (segments vid) no_segment

-- the segment of a VID changes, and the others stay
abbrev pub adjusted : ℕ → (Segment → Segment) → Segments → Segments
adjusted vid change segments = λ w. if w == vid then option_map change (segments w) else segments w

-- ---- the changes of one segment

-- a source is learned at moment t
abbrev pub learn_in : ℕ → Place → List ℕ → Segment → Segment
learn_in t place mac s = record s { entries = learn s.limit t place mac s.entries }

-- an address is fixed at a place, where there is room for it
abbrev pub fix_in : Place → List ℕ → Segment → Segment
fix_in place mac s = record s { entries = fix s.limit place mac s.entries }

-- the fixed entry of an address goes
abbrev pub unfix_in : List ℕ → Segment → Segment
unfix_in mac s = record s { entries = unfix mac s.entries }

-- what was learned at a place goes
abbrev pub flush_place_in : Place → Segment → Segment
flush_place_in place s = record s { entries = flush_place place s.entries }

-- all that was learned goes
abbrev pub flush_in : Segment → Segment
flush_in s = record s { entries = flush s.entries }

-- a new ageing holds from moment t on; what it finds too old then goes too
abbrev pub set_ageing_in : ℕ → ℕ → Segment → Segment
set_ageing_in t seconds s = aged t (record s { ageing = seconds })

-- ---- new tables

-- the limits and ageings that a table may have (802.1Q, 8.8.3, has the ageings)
pub record IsRule (rule : TableRule) : Type 0 where
  pub some_entries : 1 ≤ rule.limit
  pub long_enough : 10 ≤ rule.ageing
  pub not_too_long : rule.ageing ≤ 1000000

-- no two of them are for one VID
abbrev pub AreForDistinctVids : List TableRule → Type 0
AreForDistinctVids rules = AllPairs (λ (x : TableRule) (y : TableRule). x.vid ≢ y.vid) rules

-- a segment without entries
abbrev pub new_segment : TableRule → Segment
new_segment rule = record { limit = rule.limit; ageing = rule.ageing; entries = empty }

-- such a segment for each rule
abbrev pub new_segments : List TableRule → Segments
new_segments rules = λ vid. option_map new_segment (find (λ (rule : TableRule). rule.vid == vid) rules)
