use Rattle.part_lines.proofs.Lines.{decisions}
use Rattle.part_lines.proofs.laws.decisions_read_back.Goals as goal

pub returns : goal.returns
returns c = decisions
