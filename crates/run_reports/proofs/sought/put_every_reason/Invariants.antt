use Rattle.std.proofs.Common.{◌≡◌, ◌++◌, map}
use Rattle.run_reports.specs.Sought.{numbers_from, reason_at}
use Rattle.run_reports.proofs.sought.put_every_reason.Given as goal

-- those so far
abbrev pub invariant-loop-index : goal.invariant-loop-index
invariant-loop-index l = l.reasons.items ≡ l.fn.reasons.items ++ map (reason_at l.place) (numbers_from 1 l.index)
