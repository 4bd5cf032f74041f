use Rattle.std.proofs.Common.{◌≡◌, ◌≤◌, length}
use Rattle.wire.specs.Tag.{without_tags}
use Rattle.wire.proofs.ether.ether_view.behind_tags.Given as goal

abbrev pub invariant-loop-left : goal.invariant-loop-left
invariant-loop-left l = record {
  same : without_tags l.left l.rest ≡ without_tags l.fn.most l.fn.text;
  shorter : length l.rest ≤ length l.fn.text;
}

abbrev pub decreases-loop-left : goal.decreases-loop-left
decreases-loop-left l = l.left
