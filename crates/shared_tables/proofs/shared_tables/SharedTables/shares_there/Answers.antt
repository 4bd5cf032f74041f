use Rattle.std.proofs.Common.{sym, ap, ◌∙◌, arith}
use Rattle.std.specs.List.{sum_by}
use Rattle.filter_db.specs.Standing.{segment_count}
use Rattle.shared_tables.specs.Shared.{Shared}
use Rattle.shared_tables.specs.Segments.{segments_of}
use Rattle.shared_tables.specs.Standing.{one_there}
use Rattle.shared_tables.proofs.OnCalls.StandingLemmas.{count_is, few_there}
use Rattle.shared_tables.proofs.shared_tables.SharedTables.shares_there.Goals as goal

pub segment_count-requires : goal.segment_count-requires
segment_count-requires c = omega (arith, few_there c.deref.result.now, ap (sum_by one_there) c.deref.ensures.value, few_there c.self.inside.shares.items, c.self.invariant.sound.shares_length)

pub returns : goal.returns
returns c =
    let i = c.self.inside in
    c.segment_count.ensures ∙ ap (sum_by one_there) c.deref.ensures.value
    ∙ sym (count_is i.slots.entries i.shares.items i.moment i.calls.total i.compared.total i.slots.visited c.self.invariant.sound.shares_length)
    ∙ ap (λ (w : Shared). segment_count (segments_of w)) c.self.view_is
