use Rattle.segment_parts.proofs.Merging.{part-of_run, run-merged}
use Rattle.segment_parts.proofs.laws.runs.Goals as goal

pub returns : goal.returns
returns c = record { parts = part-of_run; together = run-merged }
