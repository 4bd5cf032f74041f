use Rattle.std.proofs.Common.{◌≡◌, drop}
use Rattle.fabric_grid.specs.Lines.{holds}
use Rattle.fabric_grid.proofs.reasons.holds.Given as goal

-- it isn't among those so far
abbrev pub invariant-loop-reason : goal.invariant-loop-reason
invariant-loop-reason l = holds l.cell (drop l.reason-index l.reasons) ≡ holds l.cell l.reasons
