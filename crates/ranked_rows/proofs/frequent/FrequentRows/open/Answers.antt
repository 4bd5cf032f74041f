use Rattle.std.proofs.Common.{ap, length, arith}
use Rattle.ranked_rows.proofs.Numbering.{none_numbers, none_rising}
use Rattle.ranked_rows.proofs.frequent.FrequentRows.open.Goals as goal

pub invariant_of-result : goal.invariant_of-result
invariant_of-result g c =
    let rows = c.in_ok-rows.rows.items in
    let order = c.in_ok-order.order.items in (
      none_rising g.K.Ranked.rank rows order c.in_ok-order.ensures.items,
      none_numbers rows order c.in_ok-rows.ensures.items c.in_ok-order.ensures.items,
      omega (arith, ap length c.in_ok-rows.ensures.items),
      omega (arith, c.in_ok-rows.ensures.exact),
      omega (arith, c.in_ok-order.ensures.exact),
    )
