use Rattle.std.proofs.Common.{◌≡◌, ◌≤◌, ◌*◌}
use Rattle.fabric_grid.specs.Below.{sum_below}
use Rattle.fabric_grid.specs.Cells.{size}
use Rattle.fabric_grid.specs.Lines.{others_of}
use Rattle.fabric_grid.proofs.counts.all_others.Given as goal

-- so many so far
abbrev pub invariant-loop-i : goal.invariant-loop-i
invariant-loop-i l = (l.others ≡ sum_below (others_of l.grid) l.i) × (l.others ≤ l.i * size l.grid)
