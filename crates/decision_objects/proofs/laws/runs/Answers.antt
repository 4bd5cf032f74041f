use Rattle.decision_objects.proofs.Running.{whole_run}
use Rattle.decision_objects.proofs.laws.runs.Goals as goal

pub returns : goal.returns
returns c = whole_run
