use Rattle.std.proofs.Common.{◌≤◌, subst, sym}
use Rattle.shared_tables.specs.Shared.{Shared}
use Rattle.shared_tables.proofs.OnEntries.SoundLemmas.{sound_later, orderly}
use Rattle.shared_tables.proofs.shared_tables.SharedTables.begin.Goals as goal

pub invariant_of-self : goal.invariant_of-self
invariant_of-self c =
    let i = c.self.inside in
    record { sound = sound_later i.slots.entries i.slots.lines i.shares.items i.moment c.args.now (subst (λ (w : Shared). w.moment ≤ c.args.now) (sym c.self.view_is) c.requires) c.self.invariant.sound; trees = c.self.invariant.trees }

pub returns-clause-orderly : goal.returns-clause-orderly
returns-clause-orderly c =
    let i = c.self.inside in
    orderly i.slots.entries i.slots.lines i.shares.items c.args.now _ _ _
    (sound_later i.slots.entries i.slots.lines i.shares.items i.moment c.args.now (subst (λ (w : Shared). w.moment ≤ c.args.now) (sym c.self.view_is) c.requires) c.self.invariant.sound)
