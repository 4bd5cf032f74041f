use Rattle.std.proofs.Common.{List, [], length, None, ◌∙◌, refl, ap, subst, sym, arith}
use Rattle.shared_tables.specs.declared.slots.Slot.{Slot}
use Rattle.shared_tables.specs.Slots.{IsFreeAll, all_slots, pool_with}
use Rattle.shared_tables.proofs.OnEntries.SlotsLemmas.{none_made}
use Rattle.shared_tables.proofs.slots.Slots.new.Goals as goal

pub invariant_of-result : goal.invariant_of-result
invariant_of-result c =
    let none = c.in_ok-slots.ensures in (
      ([], subst (λ (xs : List Slot). IsFreeAll xs None []) (sym none.items) (record { list = refl; all = refl })),
      record { within = omega (arith, ap length none.items); few = c.requires; fits = none.capacity },
    )

pub returns : goal.returns
returns c =
    ap (λ (xs : List Slot). pool_with (all_slots c.args.size xs) c.zero.result.total) c.in_ok-slots.ensures.items
    ∙ ap (λ n. pool_with (all_slots c.args.size []) n) c.zero.ensures
    ∙ none_made c.args.size 0
