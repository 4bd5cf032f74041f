use Rattle.fabric_ways.proofs.PictureLemmas.{CellRows}
use Rattle.fabric_ways.proofs.ways.cells_of.Given as goal

abbrev pub invariant-loop-i : goal.invariant-loop-i
invariant-loop-i l = CellRows l.net l.cells.items l.i
