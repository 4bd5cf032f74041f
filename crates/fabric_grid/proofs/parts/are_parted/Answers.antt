use Rattle.std.proofs.Common.{◌∙◌, sym, arith}
use Rattle.fabric_grid.specs.Cells.{size}
use Rattle.fabric_grid.specs.Lines.{is_parted_row}
use Rattle.fabric_grid.proofs.Below.{all_no}
use Rattle.fabric_grid.proofs.parts.are_parted.Goals as goal

pub returns-then-not-is_parted_row : goal.returns-then-not-is_parted_row
returns-then-not-is_parted_row c =
    all_no (is_parted_row c.args.grid.now) c.loop-i.i (size c.args.grid.now) (omega (arith, c.loop-i-test.true)) (sym c.is_parted_row.ensures ∙ c.if-not-is_parted_row.true)
