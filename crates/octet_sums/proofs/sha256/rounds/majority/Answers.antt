use Rattle.octet_sums.proofs.BitLemmas.{agreed}
use Rattle.octet_sums.proofs.sha256.rounds.majority.Goals as goal

pub returns : goal.returns
returns c = agreed c.args.a c.args.b c.args.c
