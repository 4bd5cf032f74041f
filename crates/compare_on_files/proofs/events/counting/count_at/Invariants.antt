use Rattle.std.proofs.Common.{◌≡◌, ◌+◌, ◌≤◌, length}
use Rattle.compare_on_files.specs.Events.{count_at}
use Rattle.compare_on_files.proofs.events.counting.count_at.Given as goal

-- some places were counted, and the others are left
abbrev pub invariant-loop-place : goal.invariant-loop-place
invariant-loop-place l = record {
  so_far : l.count + count_at l.tap l.left ≡ count_at l.tap l.initial.left;
  few : l.count + length l.left ≤ length l.initial.left;
}

abbrev pub decreases-loop-place : goal.decreases-loop-place
decreases-loop-place l = length l.left
