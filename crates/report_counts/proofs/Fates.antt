-- What came of a frame at a place, outlet first.
use Rattle.std.proofs.Common.{◌≡◌, ℕ, take, refl}
use Rattle.report_counts.specs.Counting.{with_fate, with_leaving}
use Rattle.report_counts.specs.Outcomes.{Told}
use Rattle.report_counts.specs.Outlets.{row_of, with_passage}
use Rattle.report_counts.specs.declared.counts.ReportCounts.{ReportCounts}
use Rattle.report_counts.specs.declared.line.EventLine.{EventLine}
use Rattle.report_counts.specs.declared.mark.Mark.{Mark}
use Rattle.report_counts.specs.declared.outlets.Outlets.{Outlets}

pub left_by : (mark : Mark) (e : EventLine) (o : Told) (c : ReportCounts) (outlets : Outlets) (outlet : ℕ) → outlets ≡ with_passage o.place o.passage mark.span c.outlets → outlet ≡ row_of (take 55 o.place) outlets.names
    → with_fate mark e outlet o.passage (record c { outlets = outlets }) ≡ with_leaving mark e o c
unfolding with_leaving
left_by mark e o c outlets outlet is row = rw (row, is) refl
