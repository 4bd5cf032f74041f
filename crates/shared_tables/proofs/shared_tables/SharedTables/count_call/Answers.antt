use Rattle.shared_tables.proofs.OnEntries.SoundLemmas.{orderly}
use Rattle.shared_tables.proofs.shared_tables.SharedTables.count_call.Goals as goal

pub returns-clause-orderly : goal.returns-clause-orderly
returns-clause-orderly c =
    let i = c.self.inside in
    orderly i.slots.entries i.slots.lines i.shares.items i.moment _ _ _ c.self.invariant.sound
