use Rattle.std.proofs.Common.{◌∙◌, sym, arith}
use Rattle.fabric_grid.specs.Cells.{is_at, size}
use Rattle.fabric_grid.specs.Boxes.{agrees}
use Rattle.fabric_grid.proofs.Below.{all_no}
use Rattle.fabric_grid.proofs.rows.is_like.Goals as goal

pub returns-then-not-agrees : goal.returns-then-not-agrees
returns-then-not-agrees c =
    all_no (λ j. agrees (is_at c.args.grid.now c.args.cell c.args.i j) (is_at c.args.grid.now c.args.cell c.args.k j)) c.loop-j.j (size c.args.grid.now) (omega (arith, c.loop-j-test.true)) (sym (c.agrees.ensures ∙ (λ i. agrees (c.is_at.ensures i) (c.is_at-in-loop-j.ensures i))) ∙ c.if-not-agrees.true)
