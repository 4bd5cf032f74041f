use Rattle.std.proofs.Common.{◌≡◌, true}
use Rattle.fabric_grid.specs.Below.{all_below}
use Rattle.fabric_grid.specs.Lines.{is_parted_at}
use Rattle.fabric_grid.proofs.parts.is_parted_row.Given as goal

-- all so far
abbrev pub invariant-loop-j : goal.invariant-loop-j
invariant-loop-j l = all_below (is_parted_at l.grid l.i) l.j ≡ true
