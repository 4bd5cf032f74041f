use Rattle.fabric_grid.proofs.Telling.{told_holes}
use Rattle.fabric_grid.proofs.laws.lines_tell_holes.Goals as goal

pub returns : goal.returns
returns c = told_holes
