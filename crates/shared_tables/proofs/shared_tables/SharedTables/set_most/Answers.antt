use Rattle.std.proofs.Common.{◌≡◌, ◌+◌, ◌<◌, ◌≤◌, List, Option, length, Some, refl, sym, ap, ◌∙◌, subst, arith}
use Rattle.std.specs.List.{sum_by}
use Rattle.filter_db.specs.Segment.{segment_at, adjusted}
use Rattle.filter_db.specs.Standing.{sum_of_limits}
use Rattle.shared_tables.specs.declared.share.Share.{Share}
use Rattle.shared_tables.specs.Shared.{Shared, kept_count}
use Rattle.shared_tables.specs.SlotsOfSegments.{share_at, share_limit}
use Rattle.shared_tables.specs.Segments.{segments_of}
use Rattle.shared_tables.specs.Standing.{with_limit}
use Rattle.shared_tables.proofs.OnEntries.SoundLemmas.{sound_at, share_read}
use Rattle.shared_tables.proofs.OnCalls.StandingLemmas.{shared_by, limits_are, limit_at, limit_sound, limited_share}
use Rattle.shared_tables.proofs.shared_tables.SharedTables.set_most.Goals as goal

pub invariant_of-self : goal.invariant_of-self
invariant_of-self c =
    let i = c.self.inside in let v = c.args.vid in let limit = c.args.limit in let share = c.in-Some.share in
    let lt : v < length i.shares.items = omega (arith, c.set_share.ensures.in_range, c.self.invariant.sound.shares_length) in
    let here : share_at i.shares.items v ≡ Some share = share_read _ _ v c.share_at.result share c.deref.ensures.value c.share_at.ensures c.in-Some.is in
    let wanted = subst (λ (w : Shared). sum_of_limits (segments_of w) + limit ≤ length w.entries + (segment_at v (segments_of w)).limit) (sym c.self.view_is) c.requires.room in
    let room : sum_by share_limit i.shares.items + limit ≤ length i.slots.entries + share.limit =
    omega (arith, wanted, limits_are i.slots.entries i.shares.items i.moment i.calls.total i.compared.total i.slots.visited c.self.invariant.sound.shares_length, limit_at i.slots.entries i.shares.items i.moment i.calls.total i.compared.total i.slots.visited v share here) in
    record { sound = sound_at i.moment refl refl c.set_share.ensures.items (limit_sound i.slots.entries i.slots.lines i.shares.items i.moment v lt c.self.invariant.sound share limit here (subst (λ (w : Shared). kept_count v w.entries ≤ limit) (sym c.self.view_is) c.requires.few) room); trees = c.self.invariant.trees }

pub returns-in-Some-clause-segments : goal.returns-in-Some-clause-segments
returns-in-Some-clause-segments c =
    let i = c.self.inside in let v = c.args.vid in let limit = c.args.limit in let share = c.in-Some.share in
    let lt : v < length i.shares.items = omega (arith, c.set_share.ensures.in_range, c.self.invariant.sound.shares_length) in
    let here : share_at i.shares.items v ≡ Some share = share_read _ _ v c.share_at.result share c.deref.ensures.value c.share_at.ensures c.in-Some.is in
    ap (λ (xs : List (Option Share)). segments_of (shared_by i.slots.entries xs i.moment i.calls.total i.compared.total i.slots.visited)) c.set_share.ensures.items
    ∙ limited_share i.slots.entries i.shares.items i.moment i.calls.total i.compared.total i.slots.visited v lt share limit here
    ∙ ap (λ (w : Shared). adjusted v (with_limit limit) (segments_of w)) c.self.view_is
