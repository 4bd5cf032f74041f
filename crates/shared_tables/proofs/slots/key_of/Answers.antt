use Rattle.std.proofs.Common.{arith}
use Rattle.shared_tables.proofs.OnEntries.SlotsLemmas.{key_is, key_held}
use Rattle.shared_tables.proofs.slots.key_of.Goals as goal

pub returns-clause-value : goal.returns-clause-value
returns-clause-value c = let s = c.args.slot.now in key_is s.kind s.key s.last s.place (omega arith) c.requires

pub returns-clause-held : goal.returns-clause-held
returns-clause-held c = let s = c.args.slot.now in key_held s.kind s.key s.last s.place c.requires
