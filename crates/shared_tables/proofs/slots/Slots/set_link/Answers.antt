use Rattle.std.proofs.Common.{set, ap, ◌∙◌, arith}
use Rattle.shared_tables.specs.declared.links.Links.{Links}
use Rattle.shared_tables.specs.Pool.{links_with}
use Rattle.shared_tables.proofs.OnEntries.SlotsLemmas.{made, linked_free, linked_pool, own_line}
use Rattle.shared_tables.proofs.slots.Slots.set_link.Goals as goal

pub index_mut-requires : goal.index_mut-requires
index_mut-requires c = omega (arith, made c.self.inside _ _ _ c.self.view_is c.slot.view_is c.requires.in_pool c.requires.held, c.self.inside.slots.ok.0)

pub invariant_of-self : goal.invariant_of-self
invariant_of-self c =
    linked_free c.self.inside _ _ _ c.self.view_is c.slot.view_is c.requires.in_pool c.requires.held c.index_mut.result.now c.set_link.new.slot c.index_mut.ensures.value _ c.set_link.ensures c.self.invariant

pub returns : goal.returns
returns c =
    let old = c.index_mut.result.now in let now = c.args.self.now in
    linked_pool c.self.inside _ _ _ c.self.view_is c.slot.view_is c.requires.in_pool c.requires.held old c.set_link.new.slot c.index_mut.ensures.value _ c.set_link.ensures
    ∙ ap (λ (own : Links). record now { lines = set now.lines c.args.slot (links_with c.args.side own c.args.link) })
    (own_line c.self.inside _ _ _ c.self.view_is c.slot.view_is c.requires.in_pool c.requires.held old c.index_mut.ensures.value)
