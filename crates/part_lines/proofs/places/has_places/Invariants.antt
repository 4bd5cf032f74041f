use Rattle.std.proofs.Common.{◌≡◌, ◌-◌, drop, length}
use Rattle.part_lines.specs.Sent.{has_places}
use Rattle.part_lines.proofs.places.has_places.Given as goal

abbrev pub invariant-loop-at : goal.invariant-loop-at
invariant-loop-at l = has_places (drop l.at l.line) ≡ has_places (drop l.from l.line)

abbrev pub decreases-loop-at : goal.decreases-loop-at
decreases-loop-at l = length l.line - l.at
