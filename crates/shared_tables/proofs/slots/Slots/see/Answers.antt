use Rattle.std.proofs.Common.{set, Some, ap, ◌∙◌, arith}
use Rattle.filter_db.specs.declared.place.Place.{Place}
use Rattle.shared_tables.specs.Pool.{entry_at, is_fixed_in, renewed}
use Rattle.shared_tables.proofs.OnEntries.SlotsLemmas.{made, own_entry, own_some, renewed_free, renewed_pool, place_read}
use Rattle.shared_tables.proofs.slots.Slots.see.Goals as goal

pub index_mut-requires : goal.index_mut-requires
index_mut-requires c = omega (arith, made c.self.inside _ _ _ c.self.view_is c.slot.view_is c.requires.in_pool c.requires.held, c.self.inside.slots.ok.0)

pub see-requires : goal.see-requires
see-requires c = record { held = own_some c.self.inside _ _ _ c.self.view_is c.slot.view_is c.requires.in_pool c.requires.held c.index_mut.result.now c.index_mut.ensures.value; learned = ap is_fixed_in (own_entry c.self.inside _ _ _ c.self.view_is c.slot.view_is c.requires.in_pool c.requires.held c.index_mut.result.now c.index_mut.ensures.value) ∙ c.requires.learned }

pub invariant_of-self : goal.invariant_of-self
invariant_of-self c =
    renewed_free c.self.inside _ _ _ c.self.view_is c.slot.view_is c.requires.in_pool c.requires.held c.index_mut.result.now c.see.new.slot c.index_mut.ensures.value _ _ c.see.ensures.entry c.self.invariant

pub returns : goal.returns
returns c =
    renewed_pool c.self.inside _ _ _ c.self.view_is c.slot.view_is c.requires.in_pool c.requires.held c.index_mut.result.now c.see.new.slot c.index_mut.ensures.value _ _ c.see.ensures.entry c.see.ensures.line
    ∙ ap (λ (place : Place). record c.args.self.now { entries = set c.args.self.now.entries c.args.slot (renewed (entry_at c.args.self.now.entries c.args.slot) place (Some c.args.last)) })
    (place_read c.self.inside _ _ _ c.self.view_is c.slot.view_is c.requires.in_pool c.requires.held c.index_mut.result.now c.see.new.slot c.index_mut.ensures.value)
