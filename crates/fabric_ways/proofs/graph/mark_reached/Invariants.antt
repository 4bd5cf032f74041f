use Rattle.fabric_ways.specs.Leads.{left}
use Rattle.fabric_ways.specs.Rows.{row_in}
use Rattle.fabric_ways.proofs.Marking.{Reached}
use Rattle.fabric_ways.proofs.graph.mark_reached.Given as goal

abbrev pub invariant-loop : goal.invariant-loop
invariant-loop l = Reached l.found (row_in l.graph) l.start

abbrev pub decreases-loop : goal.decreases-loop
decreases-loop l = left l.found
