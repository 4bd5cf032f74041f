use Rattle.std.proofs.Common.{◌≡◌, ◌≤◌, not}
use Rattle.fabric_grid.specs.Below.{count_below}
use Rattle.fabric_grid.specs.Cells.{is_one_leaf}
use Rattle.fabric_grid.proofs.counts.others_of.Given as goal

-- so many so far
abbrev pub invariant-loop-j : goal.invariant-loop-j
invariant-loop-j l = (l.others ≡ count_below (λ j. not (is_one_leaf l.grid l.i j)) l.j) × (l.others ≤ l.j)
