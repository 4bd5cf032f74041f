use Rattle.std.proofs.Common.{◌≡◌, ◌≤◌}
use Rattle.fabric_grid.specs.Below.{count_below}
use Rattle.fabric_grid.specs.Cells.{is_way}
use Rattle.fabric_grid.proofs.counts.ways_of.Given as goal

-- so many so far
abbrev pub invariant-loop-j : goal.invariant-loop-j
invariant-loop-j l = (l.ways ≡ count_below (is_way l.grid l.i) l.j) × (l.ways ≤ l.j)
