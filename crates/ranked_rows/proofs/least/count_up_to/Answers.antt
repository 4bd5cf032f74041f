use Rattle.std.proofs.Common.{◌<◌, ◌∙◌, add-one, arith, length}
use Rattle.std.proofs.lemmas.List.{get_or_default}
use Rattle.ranked_rows.proofs.Counting.{up_to_next}
use Rattle.ranked_rows.proofs.least.count_up_to.Goals as goal

pub loop-number-preserved : goal.loop-number-preserved
loop-number-preserved g c =
    let order = c.args.order.now in
    let i = c.loop-number.number-index in
    let n = c.from.result in
    let inside : n < length c.args.rows.now = omega (arith, c.requires.inside i 0 c.loop-number-test.true, c.from.ensures) in
    let next = up_to_next g.C.Frequency.times c.args.limit c.args.rows.now order i n c.index-rows-from.result c.loop-number-test.true (c.from.ensures ∙ get_or_default order i 0 n c.loop-number-test.true) inside c.index-rows-from.is in
    record {
      few = omega (arith, c.loop-number.invariant.few, c.one_up_to-count.ensures.few);
      is = rw (add-one i) (omega (arith, c.loop-number.invariant.is, c.one_up_to-count.ensures.is, next));
    }
