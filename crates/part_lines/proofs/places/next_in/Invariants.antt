use Rattle.std.proofs.Common.{◌≡◌, ◌-◌, drop, length}
use Rattle.part_lines.specs.Sent.{sent_in}
use Rattle.part_lines.proofs.places.next_in.Given as goal

abbrev pub invariant-loop-at : goal.invariant-loop-at
invariant-loop-at l = sent_in (drop l.at l.line) ≡ sent_in (drop l.from l.line)

abbrev pub decreases-loop-at : goal.decreases-loop-at
decreases-loop-at l = length l.line - l.at
