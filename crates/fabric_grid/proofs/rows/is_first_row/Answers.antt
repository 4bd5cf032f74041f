use Rattle.std.proofs.Common.{◌∙◌, sym, ap, arith, not}
use Rattle.fabric_grid.specs.Boxes.{is_like}
use Rattle.fabric_grid.proofs.Below.{all_no}
use Rattle.fabric_grid.proofs.rows.is_first_row.Goals as goal

pub returns-then-is_like : goal.returns-then-is_like
returns-then-is_like c =
    all_no (λ x. not (is_like c.args.grid.now c.args.cell x c.args.i)) c.loop-x.x (c.args.i) (omega (arith, c.loop-x-test.true)) (ap not (sym c.is_like.ensures ∙ c.if-is_like.true))
