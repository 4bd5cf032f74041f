use Rattle.std.proofs.Common.{◌∙◌, ap, arith}
use Rattle.shared_tables.specs.Bucket.{vid_in, mac_in}
use Rattle.shared_tables.specs.Slots.{entry_in}
use Rattle.shared_tables.specs.Pool.{tree_in}
use Rattle.shared_tables.proofs.OnTrees.Buckets.{held_tree}
use Rattle.shared_tables.proofs.OnEntries.SlotsLemmas.{made, own_entry, own_some}
use Rattle.shared_tables.proofs.slots.Slots.tree_of.Goals as goal

pub index-requires : goal.index-requires
index-requires c = omega (arith, made c.self.inside _ _ _ c.self.view_is c.slot.view_is c.requires.in_pool c.requires.held, c.self.inside.slots.ok.0)

pub key_of-requires : goal.key_of-requires
key_of-requires c = own_some c.self.inside _ _ _ c.self.view_is c.slot.view_is c.requires.in_pool c.requires.held c.index.result.now c.index.ensures

pub returns : goal.returns
returns c =
    let own = own_entry c.self.inside _ _ _ c.self.view_is c.slot.view_is c.requires.in_pool c.requires.held c.index.result.now c.index.ensures in
    c.tree_by_key.ensures.value ∙ held_tree (entry_in c.index.result.now) (vid_in c.key_of.result) (mac_in c.key_of.result) c.key_of.ensures.held ∙ ap tree_in own
