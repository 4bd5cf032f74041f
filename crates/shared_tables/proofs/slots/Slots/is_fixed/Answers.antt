use Rattle.std.proofs.Common.{◌∙◌, ap, arith}
use Rattle.shared_tables.specs.Pool.{is_fixed_in}
use Rattle.shared_tables.proofs.OnEntries.SlotsLemmas.{made, own_entry}
use Rattle.shared_tables.proofs.slots.Slots.is_fixed.Goals as goal

pub index-requires : goal.index-requires
index-requires c = omega (arith, made c.self.inside _ _ _ c.self.view_is c.slot.view_is c.requires.in_pool c.requires.held, c.self.inside.slots.ok.0)

pub returns : goal.returns
returns c = c.is_fixed.ensures ∙ ap is_fixed_in (own_entry c.self.inside _ _ _ c.self.view_is c.slot.view_is c.requires.in_pool c.requires.held c.index.result.now c.index.ensures)
