use Rattle.shared_tables.specs.Shared.{held_count}
use Rattle.shared_tables.proofs.OnCalls.StandingLemmas.{Emptying}
use Rattle.shared_tables.proofs.learning.empty.Given as goal

abbrev pub invariant-loop-slot : goal.invariant-loop-slot
invariant-loop-slot l = Emptying l.initial.tables l.tables l.vid

abbrev pub decreases-loop-slot : goal.decreases-loop-slot
decreases-loop-slot l = held_count l.tables.entries
