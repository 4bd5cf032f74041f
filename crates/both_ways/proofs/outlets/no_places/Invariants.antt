use Rattle.std.proofs.Common.{◌≡◌, length}
use Rattle.both_ways.proofs.outlets.no_places.Given as goal

-- one was put for each
abbrev pub invariant-loop-i : goal.invariant-loop-i
invariant-loop-i l = length l.places.items ≡ l.i
