use Rattle.std.proofs.Common.{false}
use Rattle.shared_tables.specs.Shared.{Drops, held_count, line_key}
use Rattle.shared_tables.proofs.learning.flush.Given as goal

abbrev pub invariant-loop-slot : goal.invariant-loop-slot
invariant-loop-slot l = Drops l.initial.tables l.tables (line_key l.vid false)

abbrev pub decreases-loop-slot : goal.decreases-loop-slot
decreases-loop-slot l = held_count l.tables.entries
