use Rattle.std.proofs.Common.{◌∙◌, ap, subst, List, None}
use Rattle.capture_compare.specs.Differing.{Counted}
use Rattle.capture_compare.specs.Finding.{FindsRow, IsFirstRow}
use Rattle.capture_compare.specs.declared.lonely.pairs.DifferenceRow.{DifferenceRow}
use Rattle.capture_compare.proofs.Rowing.{pair-counted, pair-opened}
use Rattle.capture_compare.proofs.lonely.pairs.PairCounts.count.Goals as goal

pub returns-in-Some : goal.returns-in-Some
returns-in-Some c =
    let same = c.as_slice.ensures.value ∙ ap (λ (x : Counted). x.rows) c.self.view_is in
    c.count_in.ensures
    ∙ pair-counted c.args.pair c.args.self.now c.in-Some.i (subst (λ (rows : List DifferenceRow). IsFirstRow c.args.pair rows c.in-Some.i) same c.in-Some.ensures)

pub returns-in-None : goal.returns-in-None
returns-in-None c =
    let same = c.as_slice.ensures.value ∙ ap (λ (x : Counted). x.rows) c.self.view_is in
    c.open_row.ensures
    ∙ pair-opened c.args.pair c.args.self.now (subst (λ (rows : List DifferenceRow). FindsRow c.args.pair rows None) same c.in-None.ensures)
