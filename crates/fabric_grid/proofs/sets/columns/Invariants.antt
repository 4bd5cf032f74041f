use Rattle.std.proofs.Common.{◌≡◌}
use Rattle.fabric_grid.specs.Below.{each_below}
use Rattle.fabric_grid.specs.Cells.{is_at}
use Rattle.fabric_grid.proofs.sets.columns.Given as goal

-- the members so far
abbrev pub invariant-loop-j : goal.invariant-loop-j
invariant-loop-j l = l.set.items ≡ each_below (is_at l.grid l.cell l.i) l.j
