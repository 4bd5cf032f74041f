use Rattle.std.proofs.Common.{◌≡◌, ◌≤◌, ◌+◌, ◌*◌, ◌%◌, ◌^◌, length}
use Rattle.wire.specs.Sum.{total, folded}
use Rattle.wire.proofs.ip_udp.header_sum.is_sum_right.Given as goal

abbrev pub invariant-loop-rest : goal.invariant-loop-rest
invariant-loop-rest l = record {
  summed : folded (256 * l.sum + total l.rest) ≡ folded (total l.fn.header);
  room : l.sum + 2 ^ 32 * length l.rest ≤ 2 ^ 39;
  whole : length l.rest % 4 ≡ 0;
}

abbrev pub decreases-loop-rest : goal.decreases-loop-rest
decreases-loop-rest l = length l.rest
