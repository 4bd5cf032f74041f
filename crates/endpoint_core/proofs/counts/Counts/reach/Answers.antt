use Rattle.endpoint_core.proofs.CellsLemmas.{same-rows}
use Rattle.endpoint_core.proofs.counts.Counts.reach.Goals as goal

pub returns-then-place-len-clause-same : goal.returns-then-place-len-clause-same
returns-then-place-len-clause-same c = rw (← c.self.view_is) (same-rows c.self.inside.nowhere c.widen.new.rows.items c.self.inside.segments.items c.widen.ensures.same)
