use Rattle.std.proofs.Common.{◌<◌, ◌∙◌, ap, ℕ, List, length, set, arith}
use Rattle.capture_compare.specs.Differing.{Counted}
use Rattle.capture_compare.specs.Finding.{with_one_at}
use Rattle.capture_compare.specs.declared.lonely.pairs.DifferenceRow.{DifferenceRow}
use Rattle.capture_compare.proofs.Rowing.{of_rows, one-written}
use Rattle.capture_compare.proofs.lonely.pairs.PairCounts.count_in.Goals as goal

pub returns : goal.returns
returns c =
    let inside : c.args.i < length c.self.inside.rows.items = omega (arith, c.requires, ap (λ (x : Counted). length x.rows) c.self.view_is) in
    let row = c.index_mut-row.result.now in
    ap (λ (n : ℕ). of_rows (set c.self.inside.rows.items c.args.i (record { first = row.first; count = n })) c.self.inside.others) c.one_more-row.ensures
    ∙ ap (λ (rows : List DifferenceRow). of_rows rows c.self.inside.others)
    (one-written c.self.inside.rows.items c.args.i c.index_mut-row.result.now inside c.index_mut-row.ensures.value)
    ∙ ap (λ (x : Counted). of_rows (with_one_at x.rows c.args.i) x.others) c.self.view_is
