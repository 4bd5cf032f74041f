use Rattle.std.proofs.Common.{Option, ◌∙◌, ap, arith}
use Rattle.shared_tables.specs.Pool.{Held, is_dead_in}
use Rattle.shared_tables.proofs.OnEntries.SlotsLemmas.{made, own_entry}
use Rattle.shared_tables.proofs.slots.Slots.dead.Goals as goal

pub index-requires : goal.index-requires
index-requires c = omega (arith, made c.self.inside _ _ _ c.self.view_is c.slot.view_is c.requires.in_pool c.requires.held, c.self.inside.slots.ok.0)

pub returns-clause-dead : goal.returns-clause-dead
returns-clause-dead c = c.is_dead.ensures ∙ ap (λ (o : Option Held). is_dead_in o c.args.ageing c.args.now) (own_entry c.self.inside _ _ _ c.self.view_is c.slot.view_is c.requires.in_pool c.requires.held c.index.result.now c.index.ensures)
