use Rattle.run_view.proofs.Lines.{all_lines}
use Rattle.run_view.proofs.laws.lines.Goals as goal

pub returns : goal.returns
returns c = all_lines
