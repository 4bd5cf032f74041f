use Rattle.std.proofs.Common.{arith}
use Rattle.shared_tables.proofs.OnEntries.SlotsLemmas.{made, linked_free, linked_pool}
use Rattle.shared_tables.proofs.slots.Slots.set_links.Goals as goal

pub index_mut-requires : goal.index_mut-requires
index_mut-requires c = omega (arith, made c.self.inside _ _ _ c.self.view_is c.slot.view_is c.requires.in_pool c.requires.held, c.self.inside.slots.ok.0)

pub invariant_of-self : goal.invariant_of-self
invariant_of-self c =
    linked_free c.self.inside _ _ _ c.self.view_is c.slot.view_is c.requires.in_pool c.requires.held c.index_mut.result.now c.set_links.new.slot c.index_mut.ensures.value c.args.links c.set_links.ensures c.self.invariant

pub returns : goal.returns
returns c =
    linked_pool c.self.inside _ _ _ c.self.view_is c.slot.view_is c.requires.in_pool c.requires.held c.index_mut.result.now c.set_links.new.slot c.index_mut.ensures.value c.args.links c.set_links.ensures
