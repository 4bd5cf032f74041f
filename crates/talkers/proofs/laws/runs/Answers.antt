use Rattle.talkers.proofs.Counting.{whole_run}
use Rattle.talkers.proofs.laws.runs.Goals as goal

pub returns : goal.returns
returns c = whole_run
