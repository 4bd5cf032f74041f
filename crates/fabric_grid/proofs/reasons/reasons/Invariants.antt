use Rattle.std.proofs.Common.{◌≡◌}
use Rattle.fabric_grid.specs.Lines.{reasons}
use Rattle.fabric_grid.proofs.reasons.reasons.Given as goal

-- those of the members so far
abbrev pub invariant-loop-i : goal.invariant-loop-i
invariant-loop-i l = l.reasons.items ≡ reasons l.grid l.i
