use Rattle.both_ways.proofs.Causes.{tells_what_is_left_out}
use Rattle.both_ways.proofs.laws.tells_what_is_left_out.Goals as goal

pub returns : goal.returns
returns c = tells_what_is_left_out
