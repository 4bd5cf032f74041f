use Rattle.std.proofs.Common.{◌∙◌, sym, arith}
use Rattle.fabric_grid.specs.Cells.{size}
use Rattle.fabric_grid.specs.Boxes.{is_mirrored_at}
use Rattle.fabric_grid.proofs.Below.{all_no}
use Rattle.fabric_grid.proofs.rows.mirrors.Goals as goal

pub returns-then-not-is_mirrored_at : goal.returns-then-not-is_mirrored_at
returns-then-not-is_mirrored_at c =
    all_no (is_mirrored_at c.args.grid.now c.args.cell c.args.i c.args.k) c.loop-x.x (size c.args.grid.now) (omega (arith, c.loop-x-test.true)) (sym c.is_mirrored_at.ensures ∙ c.if-not-is_mirrored_at.true)
