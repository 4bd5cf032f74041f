-- How often each thing was decided, by segment or for none: the outcomes sent, and the drops and the unsent outcomes by
-- their reasons. It states no standard. A count ends at the greatest number of 64 bits.
--     Mark, marks_of      what is counted of a decision
--     counted      the counts after a decision
--     tally      how often each came, of many decisions
use Rattle.std.specs.Prelude.{ℕ, ◌+◌, ◌-◌, ◌^◌, ◌==◌, ◌&&◌, Bool, true, false, min, if◌then◌else◌, List, [], ◌∷◌, map, count_by}
use Rattle.std.specs.Prelude.{Option, Some, None, Result, Ok, Err}
use Rattle.std.specs.List.{flat_map}
use Rattle.wire.specs.Reason.{number_of}
use Rattle.wire.specs.declared.ether.reason.Reason.{Reason}
use Rattle.endpoint_core.specs.Decision.{Sent, Decision}

-- a segment, or none, and the number of a reason, or 0 for what was sent
pub record Mark : Type 0 where
  pub segment : Option ℕ
  pub number : ℕ

-- for each segment or none, and each number, how often it came
abbrev pub Counts : Type 0
Counts = Option ℕ → ℕ → ℕ

-- ---- what is counted

-- the number of an outcome
abbrev pub number_sent : {A : Type 0} → Result A Reason → ℕ
number_sent (Ok octets) = 0
number_sent (Err reason) = number_of reason

-- what is counted of an outcome
abbrev pub mark_sent : Option ℕ → Sent → Mark
mark_sent segment o = record { segment = segment; number = number_sent o.sent }

-- of all outcomes
abbrev pub marks_all : Option ℕ → List Sent → List Mark
marks_all segment outcomes = map (mark_sent segment) outcomes

-- of a drop or of all outcomes
abbrev pub marks_by : Option ℕ → Option Reason → List Sent → List Mark
marks_by segment (Some reason) outcomes = record { segment = segment; number = number_of reason } ∷ []
marks_by segment None outcomes = marks_all segment outcomes

-- the drop, or each outcome
abbrev pub marks_of : Decision → List Mark
marks_of d = marks_by d.segment d.dropped d.outcomes

-- ---- counting

-- the greatest number of 64 bits
abbrev pub most : ℕ
most = 2 ^ 64 - 1

-- equality as a test
abbrev pub same_segment : Option ℕ → Option ℕ → Bool
same_segment None None = true
same_segment None (Some v) = false
same_segment (Some u) None = false
same_segment (Some u) (Some v) = u == v

-- it is counted under this segment and number
abbrev pub is_mark : Option ℕ → ℕ → Mark → Bool
is_mark segment number m = same_segment segment m.segment && number == m.number

-- nothing is counted yet
abbrev pub no_counts : Counts
no_counts segment number = 0

-- one more of a mark, up to the greatest number
abbrev pub one_more : Counts → Mark → Counts
one_more counts m = λ segment number. if is_mark segment number m then min most (counts segment number + 1) else counts segment number

-- the counts behind some marks
abbrev pub counted_all : Counts → List Mark → Counts
counted_all counts [] = counts
counted_all counts (m ∷ ms) = counted_all (one_more counts m) ms

-- the counts after a decision
abbrev pub counted : Counts → Decision → Counts
counted counts d = counted_all counts (marks_of d)

-- how often a number came in a segment or in none, of all these decisions
abbrev pub tally : List Decision → Counts
tally decisions segment number = min most (count_by (is_mark segment number) (flat_map marks_of decisions))
