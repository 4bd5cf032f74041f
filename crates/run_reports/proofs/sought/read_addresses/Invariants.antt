use Rattle.std.proofs.Common.{◌≡◌, map, take}
use Rattle.run_reports.specs.Sought.{addresses_sought}
use Rattle.run_reports.proofs.sought.read_addresses.Given as goal

-- what the names so far ask for
abbrev pub invariant-loop-place : goal.invariant-loop-place
invariant-loop-place l = l.addresses.items ≡ addresses_sought 0 (map (λ name. name.now) (take l.place l.names))
