use Rattle.std.proofs.Common.{◌≡◌, true}
use Rattle.fabric_grid.specs.Below.{all_below}
use Rattle.fabric_grid.specs.Boxes.{agrees}
use Rattle.fabric_grid.specs.Cells.{is_at}
use Rattle.fabric_grid.proofs.rows.is_like.Given as goal

-- both are alike so far
abbrev pub invariant-loop-j : goal.invariant-loop-j
invariant-loop-j l = all_below (λ j. agrees (is_at l.grid l.cell l.i j) (is_at l.grid l.cell l.k j)) l.j ≡ true
