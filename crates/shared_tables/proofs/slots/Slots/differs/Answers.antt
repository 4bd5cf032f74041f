use Rattle.std.proofs.Common.{◌≡◌, ◌+◌, Option, ◌∙◌, ap, subst, arith}
use Rattle.std.specs.Int.{bit_at}
use Rattle.shared_tables.specs.Bucket.{vid_in, mac_in}
use Rattle.shared_tables.specs.TreesOfSlots.{key_in}
use Rattle.shared_tables.specs.Slots.{entry_in}
use Rattle.shared_tables.specs.Pool.{Held, IfHeld}
use Rattle.shared_tables.proofs.OnTrees.Parting.{if_none, if_some}
use Rattle.shared_tables.proofs.OnEntries.SlotsLemmas.{made, own_entry, own_some}
use Rattle.shared_tables.proofs.slots.Slots.differs.Goals as goal

pub index-requires : goal.index-requires
index-requires c = omega (arith, made c.self.inside _ _ _ c.self.view_is c.slot.view_is c.requires.in_pool c.requires.held, c.self.inside.slots.ok.0)

pub key_of-requires : goal.key_of-requires
key_of-requires c = own_some c.self.inside _ _ _ c.self.view_is c.slot.view_is c.requires.in_pool c.requires.held c.index.result.now c.index.ensures

pub returns-clause-same : goal.returns-clause-same
returns-clause-same c =
    let own = own_entry c.self.inside _ _ _ c.self.view_is c.slot.view_is c.requires.in_pool c.requires.held c.index.result.now c.index.ensures in
    if_none c.parting.result
    (λ same. subst (λ (o : Option Held). IfHeld o (vid_in c.args.key) (mac_in c.args.key)) own (subst (λ k. IfHeld (entry_in c.index.result.now) (vid_in k) (mac_in k)) same c.key_of.ensures.held))
    c.parting.ensures.same

pub returns-clause-bit : goal.returns-clause-bit
returns-clause-bit c =
    let own = own_entry c.self.inside _ _ _ c.self.view_is c.slot.view_is c.requires.in_pool c.requires.held c.index.result.now c.index.ensures in
    let key = c.key_of.ensures.value ∙ ap key_in own in
    if_some c.parting.result (λ b parted. (parted.0, subst (λ k. bit_at k b + bit_at c.args.key b ≡ 1) key parted.1)) c.parting.ensures.differs
