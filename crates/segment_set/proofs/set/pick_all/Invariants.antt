use Rattle.std.proofs.Common.{◌≡◌, ◌++◌, drop, replicate, true}
use Rattle.segment_set.proofs.set.pick_all.Given as goal

abbrev pub invariant-loop-asked : goal.invariant-loop-asked
invariant-loop-asked l = l.vids ≡ replicate l.asked-index true ++ drop l.asked-index l.initial.vids
