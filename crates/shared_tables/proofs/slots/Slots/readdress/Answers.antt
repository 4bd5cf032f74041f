use Rattle.std.proofs.Common.{arith}
use Rattle.shared_tables.proofs.OnEntries.SlotsLemmas.{made, own_some, readdressed_free, readdressed_pool}
use Rattle.shared_tables.proofs.slots.Slots.readdress.Goals as goal

pub index_mut-requires : goal.index_mut-requires
index_mut-requires c = omega (arith, made c.self.inside _ _ _ c.self.view_is c.slot.view_is c.requires.in_pool c.requires.held, c.self.inside.slots.ok.0)

pub readdress-requires : goal.readdress-requires
readdress-requires c = own_some c.self.inside _ _ _ c.self.view_is c.slot.view_is c.requires.in_pool c.requires.held c.index_mut.result.now c.index_mut.ensures.value

pub invariant_of-self : goal.invariant_of-self
invariant_of-self c =
    readdressed_free c.self.inside _ _ _ c.self.view_is c.slot.view_is c.requires.in_pool c.requires.held c.index_mut.result.now c.readdress.new.slot c.index_mut.ensures.value c.args.vid c.args.mac c.readdress.ensures.entry c.self.invariant

pub returns : goal.returns
returns c =
    readdressed_pool c.self.inside _ _ _ c.self.view_is c.slot.view_is c.requires.in_pool c.requires.held c.index_mut.result.now c.readdress.new.slot c.index_mut.ensures.value c.args.vid c.args.mac c.readdress.ensures.entry c.readdress.ensures.line
