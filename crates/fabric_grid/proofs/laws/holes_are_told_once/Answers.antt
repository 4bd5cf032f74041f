use Rattle.fabric_grid.proofs.Telling.{once}
use Rattle.fabric_grid.proofs.laws.holes_are_told_once.Goals as goal

pub returns : goal.returns
returns c = once
