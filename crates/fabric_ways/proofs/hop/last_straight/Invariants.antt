use Rattle.std.proofs.Common.{◌≡◌, length}
use Rattle.fabric_ways.specs.Hops.{last_straight}
use Rattle.fabric_ways.proofs.hop.last_straight.Given as goal

abbrev pub invariant-loop-last : goal.invariant-loop-last
invariant-loop-last l = last_straight l.x l.y l.rest ≡ last_straight l.x l.y l.flood

abbrev pub decreases-loop-last : goal.decreases-loop-last
decreases-loop-last l = length l.rest
