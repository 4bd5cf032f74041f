use Rattle.std.proofs.Common.{◌≡◌, ◌≤◌, ◌+◌, ◌*◌, length}
use Rattle.packet_layers.specs.Dissection.{dissection, layers_from}
use Rattle.packet_layers.proofs.dissection.take_layers.Given as goal

abbrev pub invariant-loop-left : goal.invariant-loop-left
invariant-loop-left l = record {
  heads : length l.apart.heads + 7 * l.left ≤ 28;
  tails : length l.apart.tails + 2 * l.left ≤ 8;
  same : layers_from l.under l.left l.apart ≡ dissection l.under l.depth l.octets;
}

abbrev pub decreases-loop-left : goal.decreases-loop-left
decreases-loop-left l = l.left
