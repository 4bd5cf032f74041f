use Rattle.both_ways.proofs.Once.{leaves_whole}
use Rattle.both_ways.proofs.laws.leaves_whole.Goals as goal

pub returns : goal.returns
returns c = leaves_whole
