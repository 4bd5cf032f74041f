use Rattle.runs_in_memory.proofs.Leaving.{digests_tell}
use Rattle.runs_in_memory.proofs.laws.digested.Goals as goal

pub returns : goal.returns
returns g c names digests all_files all_input = digests_tell g.R.File.Read.remaining g.R.Reader.Read.remaining all_files all_input names digests
