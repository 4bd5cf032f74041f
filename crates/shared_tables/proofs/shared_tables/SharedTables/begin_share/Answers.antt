use Rattle.std.proofs.Common.{◌≡◌, ◌+◌, ◌<◌, ◌≤◌, List, Option, length, None, refl, sym, ap, ◌∙◌, subst, arith}
use Rattle.std.specs.List.{sum_by}
use Rattle.filter_db.specs.Standing.{sum_of_limits, added}
use Rattle.shared_tables.specs.declared.share.Share.{Share}
use Rattle.shared_tables.specs.Shared.{Shared, rule_at}
use Rattle.shared_tables.specs.SlotsOfSegments.{share_at, share_limit}
use Rattle.shared_tables.specs.Segments.{segments_of}
use Rattle.shared_tables.proofs.OnEntries.SoundLemmas.{sound_at}
use Rattle.shared_tables.proofs.OnCalls.StandingLemmas.{shared_by, limits_are, no_share, absent_none, begin_sound, begun_share}
use Rattle.shared_tables.proofs.shared_tables.SharedTables.begin_share.Goals as goal

pub invariant_of-self : goal.invariant_of-self
invariant_of-self c =
    let i = c.self.inside in let rule = c.args.rule in
    let lt : rule.vid < length i.shares.items = omega (arith, c.open_share.ensures.in_range, c.self.invariant.sound.shares_length) in
    let absent : share_at i.shares.items rule.vid ≡ None = no_share i.shares.items rule.vid (subst (λ (w : Shared). rule_at w.rules rule.vid ≡ None) (sym c.self.view_is) c.requires.absent) in
    let wanted = subst (λ (w : Shared). sum_of_limits (segments_of w) + rule.limit ≤ length w.entries) (sym c.self.view_is) c.requires.room in
    let room : sum_by share_limit i.shares.items + rule.limit ≤ length i.slots.entries =
    omega (arith, wanted, limits_are i.slots.entries i.shares.items i.moment i.calls.total i.compared.total i.slots.visited c.self.invariant.sound.shares_length) in
    record { sound = sound_at i.moment refl refl c.open_share.ensures.items (begin_sound i.slots.entries i.slots.lines i.shares.items i.moment rule.vid lt c.self.invariant.sound rule c.requires.some_time absent room); trees = c.self.invariant.trees }

pub returns-clause-segments : goal.returns-clause-segments
returns-clause-segments c =
    let i = c.self.inside in let rule = c.args.rule in
    let lt : rule.vid < length i.shares.items = omega (arith, c.open_share.ensures.in_range, c.self.invariant.sound.shares_length) in
    let absent : share_at i.shares.items rule.vid ≡ None = no_share i.shares.items rule.vid (subst (λ (w : Shared). rule_at w.rules rule.vid ≡ None) (sym c.self.view_is) c.requires.absent) in
    ap (λ (xs : List (Option Share)). segments_of (shared_by i.slots.entries xs i.moment i.calls.total i.compared.total i.slots.visited)) c.open_share.ensures.items
    ∙ begun_share i.slots.entries i.shares.items i.moment i.calls.total i.compared.total i.slots.visited rule.vid lt rule refl (absent_none i.slots.entries i.slots.lines i.shares.items i.moment rule.vid c.self.invariant.sound absent)
    ∙ ap (λ (w : Shared). added rule (segments_of w)) c.self.view_is
