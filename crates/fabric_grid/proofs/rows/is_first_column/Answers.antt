use Rattle.std.proofs.Common.{◌∙◌, sym, ap, arith, not}
use Rattle.fabric_grid.specs.Cells.{is_at}
use Rattle.fabric_grid.proofs.Below.{all_no}
use Rattle.fabric_grid.proofs.rows.is_first_column.Goals as goal

pub returns-then-is_at : goal.returns-then-is_at
returns-then-is_at c =
    all_no (λ x. not (is_at c.args.grid.now c.args.cell c.args.i x)) c.loop-x.x (c.args.j) (omega (arith, c.loop-x-test.true)) (ap not (sym c.is_at.ensures ∙ c.if-is_at.true))
