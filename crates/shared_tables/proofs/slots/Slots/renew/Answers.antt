use Rattle.std.proofs.Common.{arith}
use Rattle.shared_tables.proofs.OnEntries.SlotsLemmas.{made, own_some, renewed_free, renewed_pool}
use Rattle.shared_tables.proofs.slots.Slots.renew.Goals as goal

pub index_mut-requires : goal.index_mut-requires
index_mut-requires c = omega (arith, made c.self.inside _ _ _ c.self.view_is c.slot.view_is c.requires.in_pool c.requires.held, c.self.inside.slots.ok.0)

pub renew-requires : goal.renew-requires
renew-requires c = own_some c.self.inside _ _ _ c.self.view_is c.slot.view_is c.requires.in_pool c.requires.held c.index_mut.result.now c.index_mut.ensures.value

pub invariant_of-self : goal.invariant_of-self
invariant_of-self c =
    renewed_free c.self.inside _ _ _ c.self.view_is c.slot.view_is c.requires.in_pool c.requires.held c.index_mut.result.now c.renew.new.slot c.index_mut.ensures.value c.args.place.now c.args.last c.renew.ensures.entry c.self.invariant

pub returns : goal.returns
returns c =
    renewed_pool c.self.inside _ _ _ c.self.view_is c.slot.view_is c.requires.in_pool c.requires.held c.index_mut.result.now c.renew.new.slot c.index_mut.ensures.value c.args.place.now c.args.last c.renew.ensures.entry c.renew.ensures.line
