use Rattle.std.proofs.Common.{arith}
use Rattle.octet_sums.proofs.BitLemmas.{nested}
use Rattle.octet_sums.proofs.sha256.rounds.rotations.Goals as goal

pub returns : goal.returns
returns c = rw (c.rotate_right-3.ensures, c.rotate_right-2.ensures, c.rotate_right.ensures) (nested c.args.word c.args.first c.args.second c.args.third (omega arith) c.requires.some.0 c.requires.some.1 c.requires.some.2 c.requires.bits)
