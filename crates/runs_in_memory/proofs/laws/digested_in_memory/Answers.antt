use Rattle.runs_in_memory.proofs.Leaving.{memory_digests}
use Rattle.runs_in_memory.proofs.laws.digested_in_memory.Goals as goal

pub returns : goal.returns
returns c = memory_digests
