use Rattle.fabric_ways.proofs.PictureLemmas.{Rows}
use Rattle.fabric_ways.proofs.ways.graph_of.Given as goal

abbrev pub invariant-loop-s : goal.invariant-loop-s
invariant-loop-s l = Rows l.graph.items l.net l.s
