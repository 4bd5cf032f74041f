use Rattle.std.proofs.Common.{◌≡◌, ◌≤◌, ◌*◌}
use Rattle.fabric_grid.specs.Below.{sum_below}
use Rattle.fabric_grid.specs.Cells.{size}
use Rattle.fabric_grid.specs.Lines.{ways_of}
use Rattle.fabric_grid.proofs.counts.all_ways.Given as goal

-- so many so far
abbrev pub invariant-loop-i : goal.invariant-loop-i
invariant-loop-i l = (l.ways ≡ sum_below (ways_of l.grid) l.i) × (l.ways ≤ l.i * size l.grid)
