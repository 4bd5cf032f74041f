use Rattle.std.proofs.Common.{◌≡◌, ◌≤◌, drop, false, length}
use Rattle.std.specs.List.{list_any}
use Rattle.both_ways.specs.Placed.{is_put_by}
use Rattle.both_ways.proofs.placed.is_put.Given as goal

-- none of those that were looked at is
abbrev pub invariant-loop-left : goal.invariant-loop-left
invariant-loop-left l = record {
  inside : l.left ≤ length l.puts.items;
  none : list_any (is_put_by l.origin l.place) (drop l.left l.puts.items) ≡ false;
}

abbrev pub decreases-loop-left : goal.decreases-loop-left
decreases-loop-left l = l.left
