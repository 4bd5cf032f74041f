use Rattle.std.proofs.Common.{◌<◌, ◌∙◌, add-one, arith, length}
use Rattle.std.proofs.lemmas.List.{get_or_default}
use Rattle.ranked_rows.proofs.Numbering.{counted_next}
use Rattle.ranked_rows.proofs.rows.RankedRows.add_rows.Goals as goal

pub loop-number-preserved : goal.loop-number-preserved
loop-number-preserved g c =
    let order = c.args.order.now in
    let i = c.loop-number.number-index in
    let n = c.from.result in
    let inside : n < length c.args.rows.now = omega (arith, c.requires.inside i 0 c.loop-number-test.true, c.from.ensures) in
    rw (add-one i)
    (counted_next g.K.Ranked.rank g.C.Counts.joined g.C.Counts.none c.args.rows.now order i n c.index-rows-from.result c.args.self.now c.loop-number.self c.add.new.self c.loop-number-test.true
    (c.from.ensures ∙ get_or_default order i 0 n c.loop-number-test.true) inside c.index-rows-from.is c.loop-number.invariant c.add.ensures)
