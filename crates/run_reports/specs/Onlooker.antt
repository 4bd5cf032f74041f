-- Who looks on at a run for whom asks. It states no standard.
--     Counting      whoever counts, where someone does
--     Expected, Seen, Ended      an event more, an event with its answer, the end
use Rattle.std.specs.Prelude.{Option, Some, None}
use Rattle.endpoint_core.specs.Step.{State}
use Rattle.stream_run.specs.Sights.{Due, Sight}
use Rattle.run_counts.specs.Keeping.{Ends, Expects, Keeping, Sees}
use Rattle.run_reports.specs.Report.{TellsOrLoses, ended_by, seen_by, told_by}
use Rattle.run_reports.specs.declared.onlooker.Onlooker.{Onlooker}

-- where someone counts, this leaves the counters, and nobody begins to
abbrev pub Counting : (Keeping → Keeping → Type 0) → Option Keeping → Option Keeping → Type 0
Counting step (Some old) (Some new) = step old new
Counting step (Some old) None = ⊥
Counting step None (Some new) = ⊥
Counting step None None = Unit {0}

-- behind an event that was seen
abbrev pub Expected : Onlooker → Due → Onlooker → Type 0
Expected old d new = TellsOrLoses (seen_by old.reports d) new.reports × Counting (λ x y. Expects x d y) old.counts new.counts

-- and behind its answer, where it has one
abbrev pub Seen : Onlooker → Sight → Onlooker → Type 0
Seen old s new = TellsOrLoses (told_by old.reports s) new.reports × Counting (λ x y. Sees x s y) old.counts new.counts

-- behind the end
abbrev pub Ended : Onlooker → State → Onlooker → Type 0
Ended old s new = TellsOrLoses (ended_by old.reports s) new.reports × Counting (λ x y. Ends x s y) old.counts new.counts
