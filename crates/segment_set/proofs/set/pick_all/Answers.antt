use Rattle.std.proofs.Common.{arith}
use Rattle.segment_set.proofs.Picks.{one_picked}
use Rattle.segment_set.proofs.set.pick_all.Goals as goal

pub loop-asked-preserved : goal.loop-asked-preserved
loop-asked-preserved c = one_picked c.loop-asked.vids c.args.vids.now c.loop-asked.asked-index (omega arith) c.loop-asked.auto.vids c.loop-asked.invariant
