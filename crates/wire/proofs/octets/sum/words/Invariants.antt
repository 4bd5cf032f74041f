use Rattle.std.proofs.Common.{◌≡◌, ◌≤◌, ◌+◌, ◌*◌, length}
use Rattle.wire.specs.Sum.{total}
use Rattle.wire.proofs.octets.sum.words.Given as goal

abbrev pub invariant-loop-rest : goal.invariant-loop-rest
invariant-loop-rest l = record {
  summed : l.sum + total l.rest ≡ total l.fn.bytes;
  room : l.sum + 65535 * length l.rest ≤ 65535 * length l.fn.bytes;
}

abbrev pub decreases-loop-rest : goal.decreases-loop-rest
decreases-loop-rest l = length l.rest
