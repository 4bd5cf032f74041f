use Rattle.std.proofs.Common.{◌≡◌, length}
use Rattle.report_counts.specs.Counting.{with_outcomes}
use Rattle.report_counts.proofs.counts.ReportCounts.count_outcomes.Given as goal

abbrev pub invariant-loop-leaving : goal.invariant-loop-leaving
invariant-loop-leaving l = with_outcomes l.mark l.event l.left l.self ≡ with_outcomes l.mark l.event l.outcomes l.fn.self

abbrev pub decreases-loop-leaving : goal.decreases-loop-leaving
decreases-loop-leaving l = length l.left
