use Rattle.shared_tables.specs.Listing.{rows_in, AreWords}
use Rattle.shared_tables.proofs.OnCalls.Lining.{Lists}
use Rattle.shared_tables.proofs.shared_tables.listing.put_line.Given as goal

-- the walk is at the cursor, and the words of what it passed are there
abbrev pub invariant-loop-entry : goal.invariant-loop-entry
invariant-loop-entry l =
    Lists l.slots.entries l.slots.lines l.vid l.fixed l.ageing l.now (rows_in l.slots.entries l.vid l.ageing l.now l.initial.words.items) (rows_in l.slots.entries l.vid l.ageing l.now l.words.items) l.cursor l._entry l._entry-end
    × (AreWords l.slots.entries l.vid l.ageing l.now l.initial.words.items → AreWords l.slots.entries l.vid l.ageing l.now l.words.items)
