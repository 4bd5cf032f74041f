-- What is kept of a summary, and what that tells. It states no standard.
--     Kept, told_in      41 counts of no segment, and then 41 of each VID; and what they tell
use Rattle.std.specs.Prelude.{ℕ, ◌+◌, ◌*◌, ◌&&◌, nat_le, nat_lt, Bool, true, if◌then◌else◌, List, slice_index_or, Option, Some, None}
use Rattle.timeline.specs.declared.source.Tap.{Tap}
use Rattle.endpoint_core.specs.Counts.{Counts}
use Rattle.run_counts.specs.Keeping.{flow_in, refusals_in}
use Rattle.run_counts.specs.declared.flow.Flows.{Flows}
use Rattle.run_counts.specs.Told.{Told}

-- the counts as they are kept
pub record Kept : Type 0 where
  pub counts : List ℕ
  -- by the numbers of the causes
  pub refused : List ℕ
  pub came : Flows
  pub left : Flows
  pub partial : ℕ
  pub cut : List Tap

-- there can be such a segment
abbrev pub is_row : Option ℕ → Bool
is_row None = true
is_row (Some vid) = nat_le 1 vid && nat_le vid 4094

-- its row, which is its VID; that of none is 0
abbrev pub row_of : Option ℕ → ℕ
row_of None = 0
row_of (Some vid) = vid

-- there is a count of this number for this segment, or for none
abbrev pub is_kept : Option ℕ → ℕ → Bool
is_kept segment number = nat_lt number 41 && is_row segment

-- where it stands
abbrev pub index_of : Option ℕ → ℕ → ℕ
index_of segment number = row_of segment * 41 + number

-- how often each thing was decided, by the counts that are kept
abbrev pub count_in : List ℕ → Counts
count_in counts = λ segment number. if is_kept segment number then slice_index_or counts (index_of segment number) 0 else 0

-- what they tell
abbrev pub told_in : Kept → Told
told_in k = record {
  counts = count_in k.counts;
  totals = record { came = flow_in k.came; left = flow_in k.left; refused = refusals_in k.refused; partial = k.partial };
  cut = k.cut;
}
