use Rattle.std.proofs.Common.{◌≡◌}
use Rattle.fabric_grid.specs.Below.{each_below}
use Rattle.fabric_grid.specs.Boxes.{is_like}
use Rattle.fabric_grid.proofs.sets.heads.Given as goal

-- the members so far
abbrev pub invariant-loop-x : goal.invariant-loop-x
invariant-loop-x l = l.set.items ≡ each_below (λ x. is_like l.grid l.cell x l.i) l.x
