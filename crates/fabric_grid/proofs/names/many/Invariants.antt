use Rattle.std.proofs.Common.{◌≡◌, ◌≤◌}
use Rattle.fabric_grid.specs.Below.{count_below}
use Rattle.fabric_grid.specs.Names.{is_in}
use Rattle.fabric_grid.proofs.names.many.Given as goal

-- so many so far
abbrev pub invariant-loop-x : goal.invariant-loop-x
invariant-loop-x l = (l.many ≡ count_below (is_in l.set) l.x) × (l.many ≤ l.x)
