use Rattle.std.proofs.Common.{◌≡◌, ◌<◌, List, Option, length, refl, sym, ap, ◌∙◌, subst, arith}
use Rattle.filter_db.specs.Standing.{removed}
use Rattle.shared_tables.specs.declared.share.Share.{Share}
use Rattle.shared_tables.specs.Shared.{Shared, kept_count}
use Rattle.shared_tables.specs.Segments.{segments_of}
use Rattle.shared_tables.proofs.OnEntries.SoundLemmas.{sound_at}
use Rattle.shared_tables.proofs.OnCalls.StandingLemmas.{shared_by, strike_sound, ended_share}
use Rattle.shared_tables.proofs.shared_tables.SharedTables.end_share.Goals as goal

pub invariant_of-self : goal.invariant_of-self
invariant_of-self c =
    let i = c.self.inside in let v = c.args.vid in
    let lt : v < length i.shares.items = omega (arith, c.strike.ensures.in_range, c.self.invariant.sound.shares_length) in
    record { sound = sound_at i.moment refl refl c.strike.ensures.items (strike_sound i.slots.entries i.slots.lines i.shares.items i.moment v lt c.self.invariant.sound (subst (λ (w : Shared). kept_count v w.entries ≡ 0) (sym c.self.view_is) c.requires.none)); trees = c.self.invariant.trees }

pub returns-clause-segments : goal.returns-clause-segments
returns-clause-segments c =
    let i = c.self.inside in let v = c.args.vid in
    let lt : v < length i.shares.items = omega (arith, c.strike.ensures.in_range, c.self.invariant.sound.shares_length) in
    ap (λ (xs : List (Option Share)). segments_of (shared_by i.slots.entries xs i.moment i.calls.total i.compared.total i.slots.visited)) c.strike.ensures.items
    ∙ ended_share i.slots.entries i.shares.items i.moment i.calls.total i.compared.total i.slots.visited v lt
    ∙ ap (λ (w : Shared). removed v (segments_of w)) c.self.view_is
