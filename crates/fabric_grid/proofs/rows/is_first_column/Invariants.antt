use Rattle.std.proofs.Common.{◌≡◌, true, not}
use Rattle.fabric_grid.specs.Below.{all_below}
use Rattle.fabric_grid.specs.Cells.{is_at}
use Rattle.fabric_grid.proofs.rows.is_first_column.Given as goal

-- nowhere so far
abbrev pub invariant-loop-x : goal.invariant-loop-x
invariant-loop-x l = all_below (λ x. not (is_at l.grid l.cell l.i x)) l.x ≡ true
