use Rattle.part_lines.proofs.Lines.{cuts}
use Rattle.part_lines.proofs.laws.cuts_read_back.Goals as goal

pub returns : goal.returns
returns c = cuts
