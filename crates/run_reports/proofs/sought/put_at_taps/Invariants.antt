use Rattle.std.proofs.Common.{◌≡◌, ◌++◌, map}
use Rattle.run_reports.specs.Sought.{address_at, numbers_from}
use Rattle.timeline.specs.declared.source.Tap.TheVariants.{Port}
use Rattle.run_reports.proofs.sought.put_at_taps.Given as goal

-- those at the ports so far
abbrev pub invariant-loop-index : goal.invariant-loop-index
invariant-loop-index l = l.addresses.items ≡ l.fn.addresses.items ++ map (λ port. address_at l.place l.address (Port port)) (numbers_from 1 l.index)
