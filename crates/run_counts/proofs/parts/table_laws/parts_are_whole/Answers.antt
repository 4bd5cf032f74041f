use Rattle.run_counts.proofs.Whole.{whole}
use Rattle.run_counts.proofs.parts.table_laws.parts_are_whole.Goals as goal

pub returns : goal.returns
returns c = whole
