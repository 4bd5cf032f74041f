use Rattle.runs_in_memory.proofs.Leaving.{memory_leaves}
use Rattle.runs_in_memory.proofs.laws.left_in_memory.Goals as goal

pub returns : goal.returns
returns c = memory_leaves
