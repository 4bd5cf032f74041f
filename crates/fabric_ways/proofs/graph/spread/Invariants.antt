use Rattle.fabric_ways.proofs.Marking.{Spread}
use Rattle.fabric_ways.specs.Rows.{row_in}
use Rattle.fabric_ways.proofs.graph.spread.Given as goal

abbrev pub invariant-loop-s : goal.invariant-loop-s
invariant-loop-s l = Spread l.initial.found l.found (row_in l.graph) l.s l.new
