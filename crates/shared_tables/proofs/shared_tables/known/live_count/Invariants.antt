use Rattle.shared_tables.proofs.OnCalls.Counting.{Counts}
use Rattle.shared_tables.proofs.shared_tables.known.live_count.Given as goal

-- the walk is at the cursor, what it passed is dead, and the rest is counted
abbrev pub invariant-loop-entry : goal.invariant-loop-entry
invariant-loop-entry l = Counts l.slots.entries l.slots.lines l.vid l.ageing l.now l.share l.cursor l._entry l.count
