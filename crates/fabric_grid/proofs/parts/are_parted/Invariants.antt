use Rattle.std.proofs.Common.{◌≡◌, true}
use Rattle.fabric_grid.specs.Below.{all_below}
use Rattle.fabric_grid.specs.Lines.{is_parted_row}
use Rattle.fabric_grid.proofs.parts.are_parted.Given as goal

-- all so far
abbrev pub invariant-loop-i : goal.invariant-loop-i
invariant-loop-i l = all_below (is_parted_row l.grid) l.i ≡ true
