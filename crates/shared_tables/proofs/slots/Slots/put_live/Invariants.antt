use Rattle.std.proofs.Common.{◌≡◌, ◌++◌, take}
use Rattle.shared_tables.specs.Listing.{live_rows, rows_in, AreWords}
use Rattle.shared_tables.proofs.slots.Slots.put_live.Given as goal

-- the words of the slots so far
abbrev pub invariant-loop-number : goal.invariant-loop-number
invariant-loop-number l =
    (rows_in l.self.entries l.vid l.ageing l.now l.words.items ≡ rows_in l.self.entries l.vid l.ageing l.now l.initial.words.items ++ live_rows l.vid l.ageing l.now (take l.number l.self.entries))
    × (AreWords l.self.entries l.vid l.ageing l.now l.initial.words.items → AreWords l.self.entries l.vid l.ageing l.now l.words.items)
