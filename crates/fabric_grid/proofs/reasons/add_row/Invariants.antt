use Rattle.std.proofs.Common.{◌≡◌}
use Rattle.fabric_grid.specs.Lines.{row_reasons}
use Rattle.fabric_grid.proofs.reasons.add_row.Given as goal

-- those of the cells so far
abbrev pub invariant-loop-j : goal.invariant-loop-j
invariant-loop-j l = l.reasons.items ≡ row_reasons l.grid l.i l.fn.reasons.items l.j
