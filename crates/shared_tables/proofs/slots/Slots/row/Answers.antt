use Rattle.std.proofs.Common.{Option, IsSome, sym, ◌∙◌, ap, subst, arith}
use Rattle.shared_tables.specs.Listing.{row_of}
use Rattle.shared_tables.specs.Pool.{Held}
use Rattle.shared_tables.proofs.OnEntries.SlotsLemmas.{made, own_entry}
use Rattle.shared_tables.proofs.slots.Slots.row.Goals as goal

pub index-requires : goal.index-requires
index-requires c = omega (arith, made c.self.inside _ _ _ c.self.view_is c.slot.view_is c.requires.in_pool c.requires.held, c.self.inside.slots.ok.0)

pub row-requires : goal.row-requires
row-requires c = subst (λ (o : Option Held). IsSome o) (sym (own_entry c.self.inside _ _ _ c.self.view_is c.slot.view_is c.requires.in_pool c.requires.held c.index.result.now c.index.ensures)) c.requires.held

pub returns : goal.returns
returns c = c.row.ensures ∙ ap row_of (own_entry c.self.inside _ _ _ c.self.view_is c.slot.view_is c.requires.in_pool c.requires.held c.index.result.now c.index.ensures)
