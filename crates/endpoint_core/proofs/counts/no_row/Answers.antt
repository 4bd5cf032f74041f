use Rattle.endpoint_core.proofs.CellsLemmas.{index-zeros}
use Rattle.endpoint_core.proofs.counts.no_row.Goals as goal

pub returns : goal.returns
returns c = λ k. index-zeros 41 k
