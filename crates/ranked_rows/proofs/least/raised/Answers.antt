use Rattle.std.proofs.Common.{◌<◌, ◌≤◌, ◌⊎◌, inl, inr, arith}
use Rattle.std.proofs.lemmas.Bool.{cases_lt}
use Rattle.ranked_rows.specs.Rows.{rows_by}
use Rattle.ranked_rows.proofs.Counting.{all_up_to, up_to_rises}
use Rattle.ranked_rows.proofs.least.raised.Goals as goal

pub raised_between-requires-clause-order : goal.raised_between-requires-clause-order
raised_between-requires-clause-order g c = by (cases_lt c.args.floor 18446744073709551615)
  where
    by : (c.args.floor < 18446744073709551615) ⊎ (18446744073709551615 ≤ c.args.floor) → c.args.floor < 18446744073709551615
    by (inl lt) = lt
    by (inr le) =
        absurd (omega (arith, c.if-count_up_to-ge-LEAST.false, c.count_up_to.ensures, all_up_to g.C.Frequency.times c.args.rows.now c.args.order.now c.requires.numbers c.requires.full, up_to_rises g.C.Frequency.times 18446744073709551615 c.args.floor (rows_by c.args.rows.now c.args.order.now) le))

pub raised_between-requires-clause-some : goal.raised_between-requires-clause-some
raised_between-requires-clause-some g c = omega (arith, all_up_to g.C.Frequency.times c.args.rows.now c.args.order.now c.requires.numbers c.requires.full)
