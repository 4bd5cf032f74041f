-- Which segments stand, in tables whose segments share a pool of entries, and what becomes of them when one comes, goes
-- or gets another limit. It states no standard.
--     sum_of_limits      what the segments together may keep
--     segment_count      how many there are
--     added, removed      one comes, or goes
--     set_limit_in      one gets another limit
use Rattle.std.specs.Prelude.{ℕ, if◌then◌else◌, ◌==◌, nat_lt, List, Option, Some, None, is_some}
use Rattle.std.specs.List.{sum_by, range_with_len}
use Rattle.std.specs.FinMap.{empty, len}
use Rattle.filter_db.specs.declared.tables.TableRule.{TableRule}
use Rattle.filter_db.specs.Segment.{Segment, Segments, new_segment}

-- the numbers of 12 bits: the VIDs, and 0 and 4,095, which no segment has (IEEE 802.1Q, 9.6)
unfoldable pub numbers_of_12_bits : List ℕ
numbers_of_12_bits = range_with_len 0 4096

-- the most entries that a segment may have; 0 where there is none
abbrev pub limit_in : Option Segment → ℕ
limit_in None = 0
limit_in (Some s) = s.limit

-- what the limits of all segments come to
unfoldable pub sum_of_limits : Segments → ℕ
sum_of_limits segments = sum_by (λ vid. limit_in (segments vid)) numbers_of_12_bits

-- how many VIDs have a segment
unfoldable pub segment_count : Segments → ℕ
segment_count segments = sum_by (λ vid. if is_some (segments vid) then 1 else 0) numbers_of_12_bits

-- a segment comes, without entries; the others stay
abbrev pub added : TableRule → Segments → Segments
added rule segments = λ vid. if vid == rule.vid then Some (new_segment rule) else segments vid

-- the segment of a VID goes, with all its entries; the others stay
abbrev pub removed : ℕ → Segments → Segments
removed vid segments = λ w. if w == vid then None else segments w

-- another limit holds; where there are more entries than that, all of them go first, fixed ones too
abbrev pub set_limit_in : ℕ → Segment → Segment
set_limit_in limit s = record s { limit = limit; entries = if nat_lt limit (len s.entries) then empty else s.entries }
