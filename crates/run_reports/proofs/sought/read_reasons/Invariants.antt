use Rattle.std.proofs.Common.{◌≡◌, map, take}
use Rattle.run_reports.specs.Sought.{reasons_sought}
use Rattle.run_reports.proofs.sought.read_reasons.Given as goal

-- what the names so far ask for
abbrev pub invariant-loop-place : goal.invariant-loop-place
invariant-loop-place l = l.reasons.items ≡ reasons_sought 0 (map (λ name. name.now) (take l.place l.names))
