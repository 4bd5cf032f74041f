use Rattle.std.proofs.Common.{◌≡◌, ℕ, set, Option, List, Some, ap, sym, ◌∙◌, subst, ◌∷◌, arith}
use Rattle.shared_tables.specs.declared.slots.Slot.{Slot}
use Rattle.shared_tables.specs.Pool.{freed}
use Rattle.shared_tables.specs.Slots.{all_slots, pool_with, IsFreeAll}
use Rattle.shared_tables.proofs.OnEntries.SlotsLemmas.{all-set, forth, frees, made, made_still, own_held, pool-freed}
use Rattle.shared_tables.proofs.slots.Slots.free.Goals as goal

pub index_mut-requires : goal.index_mut-requires
index_mut-requires c = omega (arith, made c.self.inside _ _ _ c.self.view_is c.slot.view_is c.requires.in_pool c.requires.held, c.self.inside.slots.ok.0)

pub invariant_of-self : goal.invariant_of-self
invariant_of-self c =
    let xs = c.self.inside.slots.items in let i = c.slot.inside.number in
    let is = c.self.invariant.0.0 in (
      (
        i ∷ is,
        subst (λ (o : Option ℕ). IsFreeAll (set xs i c.vacant.result) o (i ∷ is)) (ap Some c.slot.view_is ∙ sym c.to-self-inside.ensures)
            (frees xs i c.vacant.result c.self.inside.free is (made c.self.inside _ _ _ c.self.view_is c.slot.view_is c.requires.in_pool c.requires.held) (own_held c.self.inside _ _ _ c.self.view_is c.slot.view_is c.requires.in_pool c.requires.held) c.vacant.ensures.entry c.vacant.ensures.next c.self.invariant.0.1),
      ),
      made_still xs i c.vacant.result c.self.invariant.1,
    )

pub returns : goal.returns
returns c =
    let xs = c.self.inside.slots.items in let i = c.slot.inside.number in
    let every = all_slots c.self.inside.size xs in
    let v = c.self.inside.visited.total in
    ap (λ (ys : List Slot). pool_with ys v) (all-set c.self.inside.size xs i c.vacant.result (made c.self.inside _ _ _ c.self.view_is c.slot.view_is c.requires.in_pool c.requires.held))
    ∙ forth every v i _ _ c.self.view_is c.slot.view_is (λ w s. pool_with (set every i c.vacant.result) v ≡ freed w s) (pool-freed every v i c.vacant.result c.vacant.ensures.entry)
