use Rattle.shared_tables.proofs.OnEntries.SlotsLemmas.{readdressed_entry}
use Rattle.shared_tables.proofs.slots.changing.readdress.Goals as goal

pub returns-clause-entry : goal.returns-clause-entry
returns-clause-entry c =
    let s = c.args.slot.now in readdressed_entry s.kind s.key c.key-slot.result s.last s.place c.args.vid c.args.mac c.requires c.key-slot.ensures.vid c.key-slot.ensures.mac
