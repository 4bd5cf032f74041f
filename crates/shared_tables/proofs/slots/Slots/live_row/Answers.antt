use Rattle.std.proofs.Common.{Option, ◌∙◌, ap, arith}
use Rattle.shared_tables.specs.Listing.{live_row}
use Rattle.shared_tables.specs.Pool.{Held}
use Rattle.shared_tables.proofs.OnEntries.SlotsLemmas.{made, own_entry}
use Rattle.shared_tables.proofs.slots.Slots.live_row.Goals as goal

pub index-requires : goal.index-requires
index-requires c = omega (arith, made c.self.inside _ _ _ c.self.view_is c.slot.view_is c.requires.in_pool c.requires.held, c.self.inside.slots.ok.0)

pub returns : goal.returns
returns c = c.live_row.ensures ∙ ap (λ (o : Option Held). live_row c.args.vid c.args.ageing c.args.now o) (own_entry c.self.inside _ _ _ c.self.view_is c.slot.view_is c.requires.in_pool c.requires.held c.index.result.now c.index.ensures)
