use Rattle.std.proofs.Common.{◌≡◌, ◌≤◌}
use Rattle.fabric_grid.specs.Below.{count_below}
use Rattle.fabric_grid.specs.Boxes.{is_first_row}
use Rattle.fabric_grid.specs.declared.cell.Cell.TheVariants.{Comes}
use Rattle.fabric_grid.proofs.parts.parts.Given as goal

-- so many so far
abbrev pub invariant-loop-i : goal.invariant-loop-i
invariant-loop-i l = (l.parts ≡ count_below (is_first_row l.grid Comes) l.i) × (l.parts ≤ l.i)
