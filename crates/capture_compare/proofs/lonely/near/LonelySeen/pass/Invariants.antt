use Rattle.std.proofs.Common.{◌≡◌, length}
use Rattle.capture_compare.specs.Near.{since}
use Rattle.capture_compare.proofs.lonely.near.LonelySeen.pass.Given as goal

-- only records that are earlier go
abbrev pub invariant-loop-self : goal.invariant-loop-self
invariant-loop-self l = since l.moment l.self ≡ since l.moment l.fn.self

abbrev pub decreases-loop-self : goal.decreases-loop-self
decreases-loop-self l = length l.self
