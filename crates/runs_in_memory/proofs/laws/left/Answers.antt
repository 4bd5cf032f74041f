use Rattle.runs_in_memory.proofs.Leaving.{leaves_run}
use Rattle.runs_in_memory.proofs.laws.left.Goals as goal

pub returns : goal.returns
returns g c = leaves_run g.R.File.Read.remaining g.R.Reader.Read.remaining g.R.File.Write.contents
