use Rattle.std.proofs.Common.{◌≡◌, Option, IfSome, refl, subst, arith}
use Rattle.filter_db.specs.declared.place.Place.{Place}
use Rattle.shared_tables.specs.Pool.{Held}
use Rattle.shared_tables.proofs.OnEntries.SlotsLemmas.{made, of_place, own_entry}
use Rattle.shared_tables.proofs.slots.Slots.place.Goals as goal

pub index-requires : goal.index-requires
index-requires c = omega (arith, made c.self.inside _ _ _ c.self.view_is c.slot.view_is c.requires.in_pool c.requires.held, c.self.inside.slots.ok.0)

pub returns : goal.returns
returns c = subst (λ (o : Option Held). IfSome o (λ e. c.index.result.now.place ≡ e.place)) (own_entry c.self.inside _ _ _ c.self.view_is c.slot.view_is c.requires.in_pool c.requires.held c.index.result.now c.index.ensures) (of_place (λ (place : Place). c.index.result.now.place ≡ place) c.index.result.now refl)
