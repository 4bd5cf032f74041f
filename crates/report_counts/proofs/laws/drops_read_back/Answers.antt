use Rattle.report_counts.proofs.Reading.{drops}
use Rattle.report_counts.proofs.laws.drops_read_back.Goals as goal

pub returns : goal.returns
returns c = drops
