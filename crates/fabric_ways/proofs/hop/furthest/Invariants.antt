use Rattle.std.proofs.Common.{◌≡◌, take}
use Rattle.fabric_ways.specs.Hops.{furthest}
use Rattle.fabric_ways.proofs.hop.furthest.Given as goal

abbrev pub invariant-loop-entry : goal.invariant-loop-entry
invariant-loop-entry l = l.far ≡ furthest l.x l.y (take l.entry-index l.flood)
