use Rattle.fabric_ways.proofs.Marking.{Marked}
use Rattle.fabric_ways.proofs.graph.mark.Given as goal

abbrev pub invariant-loop-t : goal.invariant-loop-t
invariant-loop-t l = Marked l.initial.found l.found l.row l.t-index l.new
