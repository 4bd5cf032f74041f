use Rattle.story_laws.proofs.Runs.{runs}
use Rattle.story_laws.proofs.objects.laws.runs_read_back.Goals as goal

pub returns : goal.returns
returns c = runs
