use Rattle.std.proofs.Common.{◌∙◌}
use Rattle.endpoint_core.specs.Cells.{Cells}
use Rattle.endpoint_core.proofs.CellsLemmas.{one_more-at}
use Rattle.endpoint_core.proofs.counts.Counts.add_there.Goals as goal

pub returns-clause-more : goal.returns-clause-more
returns-clause-more c =
    let cells : Cells = record { nowhere = c.self.inside.nowhere; segments = c.self.inside.segments.items } in
    let there = rw (← c.self.view_is) at c.requires.there in
    rw (← c.self.view_is)
    (one_more-at cells c.args.vid c.from.result c.args.number _ _ _ (c.from.ensures ∙ c.get.ensures.value) there c.add_in.ensures.there c.index_mut.ensures.value c.add_in.ensures.more)
