use Rattle.std.proofs.Common.{◌∙◌, ap, [], ◌∷◌, ◌++◌}
use Rattle.run_reports.specs.Sought.{reason_at}
use Rattle.run_reports.specs.declared.sought.SoughtReason.{SoughtReason}
use Rattle.run_reports.proofs.Seeking.{put_more}
use Rattle.run_reports.proofs.sought.put_every_reason.Goals as goal

pub loop-index-preserved : goal.loop-index-preserved
loop-index-preserved c =
    let before = c.loop-index.reasons.items in
    put_more (reason_at c.args.place) c.args.reasons.now.items before c.push.new.self.items c.loop-index.index c.loop-index.invariant (c.in_ok-push.ensures.items ∙ ap (λ (k : SoughtReason). before ++ k ∷ []) c.reason_at.ensures)
