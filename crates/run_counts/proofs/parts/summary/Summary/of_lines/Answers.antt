use Rattle.std.proofs.Common.{ap}
use Rattle.run_counts.specs.Told.{Told}
use Rattle.run_counts.specs.Rows.{rows_of, told_by}
use Rattle.run_counts.proofs.parts.summary.Summary.of_lines.Goals as goal

pub loop-line-init : goal.loop-line-init
loop-line-init c = ap (λ (t : Told). told_by t (rows_of c.args.text.now)) c.in_ok-summary.ensures
