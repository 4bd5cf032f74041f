use Rattle.std.proofs.Common.{◌≡◌, ◌+◌, ◌-◌, length, ap, subst, arith}
use Rattle.std.specs.List.{sum_by}
use Rattle.filter_db.specs.Standing.{sum_of_limits}
use Rattle.shared_tables.specs.Shared.{Shared}
use Rattle.shared_tables.specs.SlotsOfSegments.{share_limit}
use Rattle.shared_tables.specs.Segments.{segments_of}
use Rattle.shared_tables.proofs.OnCalls.StandingLemmas.{limits_are}
use Rattle.shared_tables.proofs.shared_tables.SharedTables.unpromised.Goals as goal

pub returns : goal.returns
returns c =
    let i = c.self.inside in
    subst (λ (w : Shared). c.size.result - c.sum_of_limits.result + sum_of_limits (segments_of w) ≡ length w.entries) c.self.view_is
    (omega (arith, c.size.ensures, c.sum_of_limits.ensures, ap (sum_by share_limit) c.deref.ensures.value, c.self.invariant.sound.room, limits_are i.slots.entries i.shares.items i.moment i.calls.total i.compared.total i.slots.visited c.self.invariant.sound.shares_length))
