use Rattle.std.proofs.Common.{◌≡◌, ◌++◌, drop}
use Rattle.fabric_grid.specs.Lines.{more_reasons}
use Rattle.fabric_grid.proofs.reasons.put_more.Given as goal

-- the reasons so far
abbrev pub invariant-loop-reason : goal.invariant-loop-reason
invariant-loop-reason l = l.text.items ++ more_reasons (drop l.reason-index l.reasons) ≡ l.initial.text.items ++ more_reasons l.reasons
