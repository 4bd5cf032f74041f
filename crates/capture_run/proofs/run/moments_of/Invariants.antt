use Rattle.std.proofs.Common.{◌≡◌, ◌++◌, drop, map}
use Rattle.capture_run.proofs.run.moments_of.Given as goal

-- the moments so far, and those of what is left, are all
abbrev pub invariant-loop-change : goal.invariant-loop-change
invariant-loop-change l = l.moments.items ++ map (λ c. c.at) (drop l.change-index l.changes) ≡ map (λ c. c.at) l.changes
