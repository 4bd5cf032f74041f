use Rattle.std.proofs.Common.{◌∙◌, arith}
use Rattle.shared_tables.proofs.OnEntries.SlotsLemmas.{made, own_line}
use Rattle.shared_tables.proofs.slots.Slots.links.Goals as goal

pub index-requires : goal.index-requires
index-requires c = omega (arith, made c.self.inside _ _ _ c.self.view_is c.slot.view_is c.requires.in_pool c.requires.held, c.self.inside.slots.ok.0)

pub returns : goal.returns
returns c = c.links_on.ensures ∙ own_line c.self.inside _ _ _ c.self.view_is c.slot.view_is c.requires.in_pool c.requires.held c.index.result.now c.index.ensures
