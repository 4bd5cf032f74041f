use Rattle.std.proofs.Common.{◌≡◌, ◌≤◌, ◌+◌, ◌*◌, length}
use Rattle.wire.specs.Sum.{total, folded}
use Rattle.wire.proofs.octets.sum.folded.Given as goal

abbrev pub invariant-loop-rest : goal.invariant-loop-rest
invariant-loop-rest l = record {
  summed : folded (256 * (l.sum + l.carries) + total l.rest) ≡ folded (total l.fn.bytes);
  room : 8 * l.carries + length l.rest ≤ length l.fn.bytes;
}

abbrev pub decreases-loop-rest : goal.decreases-loop-rest
decreases-loop-rest l = length l.rest

abbrev pub invariant-loop-rest-2 : goal.invariant-loop-rest-2
invariant-loop-rest-2 l = record {
  summed : folded (256 * (l.sum + l.carries) + total l.rest) ≡ folded (total l.fn.bytes);
  room : 8 * l.carries + length l.rest ≤ length l.fn.bytes;
}

abbrev pub decreases-loop-rest-2 : goal.decreases-loop-rest-2
decreases-loop-rest-2 l = length l.rest
