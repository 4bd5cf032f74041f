use Rattle.std.proofs.Common.{◌≡◌, true}
use Rattle.fabric_grid.specs.Below.{all_below}
use Rattle.fabric_grid.specs.Boxes.{is_mirrored_at}
use Rattle.fabric_grid.proofs.rows.mirrors.Given as goal

-- so far it is
abbrev pub invariant-loop-x : goal.invariant-loop-x
invariant-loop-x l = all_below (is_mirrored_at l.grid l.cell l.i l.k) l.x ≡ true
