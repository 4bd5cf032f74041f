use Rattle.std.proofs.Common.{◌∙◌, sym, arith}
use Rattle.fabric_grid.specs.Cells.{size}
use Rattle.fabric_grid.specs.Lines.{is_parted_at}
use Rattle.fabric_grid.proofs.Below.{all_no}
use Rattle.fabric_grid.proofs.parts.is_parted_row.Goals as goal

pub returns-then-not-is_parted_at : goal.returns-then-not-is_parted_at
returns-then-not-is_parted_at c =
    all_no (is_parted_at c.args.grid.now c.args.i) c.loop-j.j (size c.args.grid.now) (omega (arith, c.loop-j-test.true)) (sym c.is_parted_at.ensures ∙ c.if-not-is_parted_at.true)
