use Rattle.both_ways.proofs.Counts.{counts_what_is_left_out}
use Rattle.both_ways.proofs.laws.counts_what_is_left_out.Goals as goal

pub returns : goal.returns
returns c = counts_what_is_left_out
