use Rattle.std.proofs.Common.{rules, ◌≡◌, Option, IfSome, subst, arith}
use Rattle.filter_db.specs.declared.place.Place.{Place}
use Rattle.filter_db.specs.Place.{same_place}
use Rattle.shared_tables.specs.Pool.{Held}
use Rattle.shared_tables.proofs.OnEntries.SlotsLemmas.{made, of_place, own_entry}
use Rattle.shared_tables.proofs.slots.Slots.stands_at.Goals as goal

pub index-requires : goal.index-requires
index-requires c = omega (arith, made c.self.inside _ _ _ c.self.view_is c.slot.view_is c.requires.in_pool c.requires.held, c.self.inside.slots.ok.0)

pub returns : goal.returns
returns c =
    let is : c.eq.result ≡ same_place c.index.result.now.place c.args.place.now = search rules in
    subst (λ (o : Option Held). IfSome o (λ e. c.eq.result ≡ same_place e.place c.args.place.now)) (own_entry c.self.inside _ _ _ c.self.view_is c.slot.view_is c.requires.in_pool c.requires.held c.index.result.now c.index.ensures)
    (of_place (λ (place : Place). c.eq.result ≡ same_place place c.args.place.now) c.index.result.now is)
