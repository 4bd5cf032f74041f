use Rattle.std.proofs.Common.{◌+◌, ◌-◌}
use Rattle.shared_tables.specs.Bucket.{bucket_of}
use Rattle.shared_tables.specs.Shared.{bucket_count}
use Rattle.shared_tables.specs.TreeColumns.{target_in}
use Rattle.shared_tables.proofs.OnTrees.Walk.{Walks}
use Rattle.shared_tables.proofs.look_up.find_in.Given as goal

abbrev pub invariant-loop-word : goal.invariant-loop-word
invariant-loop-word l = Walks l.slots.entries l.trees l.fn.vid l.fn.mac l.initial.compared.total l.compared.total (target_in l.word)

abbrev pub decreases-loop-word : goal.decreases-loop-word
decreases-loop-word l = (l.initial.compared.total + bucket_count (bucket_of l.fn.vid l.fn.mac) l.slots.entries) - l.compared.total
