use Rattle.std.proofs.Common.{◌∙◌}
use Rattle.report_counts.specs.Outcomes.{told}
use Rattle.report_counts.proofs.Fates.{left_by}
use Rattle.report_counts.proofs.counts.ReportCounts.count_leaving.Goals as goal

pub returns : goal.returns
returns c =
    c.count_passage.ensures
    ∙ left_by c.args.mark c.args.event.now (told c.args.leaving.now) c.args.self.now _ _ c.add-outlet.ensures.counts c.add-outlet.ensures.row
