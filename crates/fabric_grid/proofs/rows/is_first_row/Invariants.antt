use Rattle.std.proofs.Common.{◌≡◌, true, not}
use Rattle.fabric_grid.specs.Below.{all_below}
use Rattle.fabric_grid.specs.Boxes.{is_like}
use Rattle.fabric_grid.proofs.rows.is_first_row.Given as goal

-- none is like it so far
abbrev pub invariant-loop-x : goal.invariant-loop-x
invariant-loop-x l = all_below (λ x. not (is_like l.grid l.cell x l.i)) l.x ≡ true
