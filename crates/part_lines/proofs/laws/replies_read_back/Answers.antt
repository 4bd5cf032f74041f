use Rattle.part_lines.proofs.Lines.{replies}
use Rattle.part_lines.proofs.laws.replies_read_back.Goals as goal

pub returns : goal.returns
returns c = replies
