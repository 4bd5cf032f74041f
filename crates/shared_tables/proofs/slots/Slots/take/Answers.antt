use Rattle.std.proofs.Common.{◌≡◌, ℕ, ◌<◌, List, [], ◌∷◌, length, length-append, set, Option, IsSome, Some, None, refl, sym, ap, ◌∙◌, subst, arith}
use Rattle.std.proofs.lemmas.List.{get_or_read}
use Rattle.shared_tables.specs.declared.slots.Slot.{Slot}
use Rattle.shared_tables.specs.Pool.{Pool, Held, entry_at, taken, free_count}
use Rattle.shared_tables.specs.Slots.{all_slots, pool_with, no_slot, entry_in, IsFreeAll}
use Rattle.shared_tables.proofs.OnEntries.SlotsLemmas.{all-push, all-set, first_taken, forth, free_in_all, frees_none, has_room, made_still, next_in_all, pool-taken, takes}
use Rattle.shared_tables.proofs.slots.Slots.take.Goals as goal

pub index-requires : goal.index-requires
index-requires c =
    let xs = c.self.inside.slots.items in let i = c.slot-in-Some.inside.number in
    let first = first_taken xs c.self.inside.free i c.self.invariant.0.0 c.self.invariant.0.1 (sym c.slot.ensures ∙ c.in-Some.is ∙ ap Some (sym c.slot-in-Some.view_is)) in
    omega (arith, first.free.list.1, c.self.inside.slots.ok.0)

pub index_mut-requires : goal.index_mut-requires
index_mut-requires c =
    let xs = c.self.inside.slots.items in let i = c.slot-in-Some.inside.number in
    let first = first_taken xs c.self.inside.free i c.self.invariant.0.0 c.self.invariant.0.1 (sym c.slot.ensures ∙ c.in-Some.is ∙ ap Some (sym c.slot-in-Some.view_is)) in
    omega (arith, first.free.list.1, c.self.inside.slots.ok.0)

pub invariant_of-self : goal.invariant_of-self
invariant_of-self c =
    let xs = c.self.inside.slots.items in let i = c.slot-in-Some.inside.number in
    let first = first_taken xs c.self.inside.free i c.self.invariant.0.0 c.self.invariant.0.1 (sym c.slot.ensures ∙ c.in-Some.is ∙ ap Some (sym c.slot-in-Some.view_is)) in
    let some : IsSome (entry_in c.fill.new.slot) = subst (λ (o : Option Held). IsSome o) (sym c.fill.ensures.entry) refl in (
      (first.rest, subst (λ (o : Option ℕ). IsFreeAll (set xs i c.fill.new.slot) o first.rest) (ap (λ (s : Slot). s.line.next) (sym (get_or_read xs i c.index.result.now first.free.list.1 c.index.ensures no_slot))) (takes xs i c.fill.new.slot first.rest some first.free)),
      made_still xs i c.fill.new.slot c.self.invariant.1,
    )

pub returns-in-Some : goal.returns-in-Some
returns-in-Some c =
    let xs = c.self.inside.slots.items in let i = c.slot-in-Some.inside.number in
    let size = c.self.inside.size in
    let every = all_slots size xs in
    let v = c.self.inside.visited.total in
    let e = c.self.view_is in let q = c.slot-in-Some.view_is in
    let first = first_taken xs c.self.inside.free i c.self.invariant.0.0 c.self.invariant.0.1 (sym c.slot.ensures ∙ c.in-Some.is ∙ ap Some (sym c.slot-in-Some.view_is)) in
    let new : Held = record { vid = c.args.vid; mac = c.args.mac.now; place = c.args.place.now; last = c.args.last } in
    record {
      free = forth every v i _ _ e q (λ w s. (s < length w.entries) × (entry_at w.entries s ≡ None)) (free_in_all size xs i first.free.list.1 first.free.list.2);
      pool = ap (λ (ys : List Slot). pool_with ys v) (all-set size xs i c.fill.new.slot first.free.list.1)
          ∙ forth every v i _ _ e q (λ w s. pool_with (set every i c.fill.new.slot) v ≡ taken w s new) (pool-taken every v i c.fill.new.slot new c.fill.ensures.entry c.fill.ensures.line);
    }

pub invariant_of-slot : goal.invariant_of-slot
invariant_of-slot c =
    let room = has_room c.self.inside.size c.self.inside.slots.items c.self.inside.free c.self.invariant.0.0 c.self.invariant.0.1 (sym c.slot.ensures ∙ c.in-None.is) (subst (λ (w : Pool). 0 < free_count w.entries) (sym c.self.view_is) c.requires) in
    omega (arith, room, c.self.invariant.1.few, c.self.inside.slots.ok.0, c.len.ensures)

pub push_reserved-requires : goal.push_reserved-requires
push_reserved-requires c =
    let room = has_room c.self.inside.size c.self.inside.slots.items c.self.inside.free c.self.invariant.0.0 c.self.invariant.0.1 (sym c.slot.ensures ∙ c.in-None.is) (subst (λ (w : Pool). 0 < free_count w.entries) (sym c.self.view_is) c.requires) in
    omega (arith, room, c.self.invariant.1.fits, c.self.inside.slots.ok.0)

pub invariant_of-self-in-None : goal.invariant_of-self-in-None
invariant_of-self-in-None c =
    let xs = c.self.inside.slots.items in let s = c.filled.result in let w = c.self.invariant.1 in let e = c.push_reserved.ensures in
    let room = has_room c.self.inside.size c.self.inside.slots.items c.self.inside.free c.self.invariant.0.0 c.self.invariant.0.1 (sym c.slot.ensures ∙ c.in-None.is) (subst (λ (w : Pool). 0 < free_count w.entries) (sym c.self.view_is) c.requires) in
    let some : IsSome (entry_in s) = subst (λ (o : Option Held). IsSome o) (sym c.filled.ensures.entry) refl in (
      ([], subst (λ (ys : List Slot). IsFreeAll ys c.self.inside.free []) (sym e.items) (frees_none xs s c.self.inside.free c.self.invariant.0.0 c.self.invariant.0.1 (sym c.slot.ensures ∙ c.in-None.is) some)),
      record { within = omega (arith, room, ap length e.items, length-append xs (s ∷ [])); few = w.few; fits = omega (arith, w.fits, e.capacity) },
    )

pub returns-in-None : goal.returns-in-None
returns-in-None c =
    let xs = c.self.inside.slots.items in let s = c.filled.result in
    let size = c.self.inside.size in
    let every = all_slots size xs in
    let v = c.self.inside.visited.total in
    let room = has_room c.self.inside.size c.self.inside.slots.items c.self.inside.free c.self.invariant.0.0 c.self.invariant.0.1 (sym c.slot.ensures ∙ c.in-None.is) (subst (λ (w : Pool). 0 < free_count w.entries) (sym c.self.view_is) c.requires) in
    let len : length xs ≡ c.len.result = omega (arith, c.len.ensures, c.self.inside.slots.ok.0) in
    let new : Held = record { vid = c.args.vid; mac = c.args.mac.now; place = c.args.place.now; last = c.args.last } in
    record {
      free = forth every v (length xs) _ _ c.self.view_is len (λ w k. (k < length w.entries) × (entry_at w.entries k ≡ None)) (next_in_all size xs room);
      pool = ap (λ (ys : List Slot). pool_with (all_slots size ys) v) c.push_reserved.ensures.items
          ∙ ap (λ (ys : List Slot). pool_with ys v) (all-push size xs s room)
          ∙ forth every v (length xs) _ _ c.self.view_is len (λ w k. pool_with (set every (length xs) s) v ≡ taken w k new) (pool-taken every v (length xs) s new c.filled.ensures.entry c.filled.ensures.line);
    }
