use Rattle.std.proofs.Common.{◌≡◌}
use Rattle.sha2.specs.Sha256.{hash_after}
use Rattle.octet_sums.proofs.sha256.block.take_blocks.Given as goal

abbrev pub invariant-each : goal.invariant-each
invariant-each l = l.state ≡ hash_after l.fn.state l.octets l.i
