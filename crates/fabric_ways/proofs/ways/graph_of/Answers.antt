use Rattle.std.proofs.Common.{arith}
use Rattle.fabric_ways.proofs.PictureLemmas.{Rows-all}
use Rattle.fabric_ways.proofs.ways.graph_of.Goals as goal

pub returns-clause-rows : goal.returns-clause-rows
returns-clause-rows c = Rows-all c.loop-s.graph.items c.args.net.now c.loop-s.s c.loop-s.invariant (omega arith)
