use Rattle.endpoint_core.proofs.CellsLemmas.{none-yet}
use Rattle.endpoint_core.proofs.counts.Counts.open.Goals as goal

pub returns : goal.returns
returns c = none-yet _ c.no_row.ensures c.in_ok-with_capacity.ensures.items
