use Rattle.std.proofs.Common.{arith}
use Rattle.octet_sums.proofs.BitLemmas.{chosen}
use Rattle.octet_sums.proofs.sha256.rounds.choice.Goals as goal

pub returns : goal.returns
returns c = chosen c.args.by c.args.one c.args.other (omega arith) (omega arith) (omega arith)
