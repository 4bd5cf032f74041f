use Rattle.shared_tables.specs.Shared.{held_count}
use Rattle.shared_tables.proofs.OnEntries.Sweeping.{Frees}
use Rattle.shared_tables.proofs.learning.sweep.Given as goal

abbrev pub invariant-loop-slot : goal.invariant-loop-slot
invariant-loop-slot l = Frees l.initial.tables l.tables l.vid l.ageing

abbrev pub decreases-loop-slot : goal.decreases-loop-slot
decreases-loop-slot l = held_count l.tables.entries
