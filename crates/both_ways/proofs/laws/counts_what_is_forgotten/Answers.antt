use Rattle.both_ways.proofs.Forgetting.{counts_what_is_forgotten}
use Rattle.both_ways.proofs.laws.counts_what_is_forgotten.Goals as goal

pub returns : goal.returns
returns c = counts_what_is_forgotten
