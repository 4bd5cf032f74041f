use Rattle.json_lines.proofs.SameLines.{lines_read_back}
use Rattle.json_lines.proofs.SameTexts.{texts_read_back}
use Rattle.json_lines.proofs.laws.lines_read_back.Goals as goal

pub returns : goal.returns
returns c = record { objects = lines_read_back; texts = texts_read_back }
