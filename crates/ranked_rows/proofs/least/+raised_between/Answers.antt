use Rattle.std.proofs.Common.{arith}
use Rattle.ranked_rows.specs.Rows.{rows_by}
use Rattle.ranked_rows.proofs.Counting.{up_to_rises}
use Rattle.ranked_rows.proofs.least.+raised_between.Goals as goal

pub returns-then-high-low-eq1-clause-raised : goal.returns-then-high-low-eq1-clause-raised
returns-then-high-low-eq1-clause-raised g t c = record {
  up = omega (arith, c.requires.above, c.requires.order);
  few = λ x low lt.
      omega (arith, c.requires.few, up_to_rises g.C.Frequency.times x c.args.low (rows_by c.args.rows.now c.args.order.now) (omega (arith, lt, c.if-high-low-eq1.true, c.requires.order)));
}
