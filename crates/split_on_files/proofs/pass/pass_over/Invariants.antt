use Rattle.split_on_files.specs.Pass.{IsPlaced}
use Rattle.split_on_files.proofs.pass.pass_over.Given as goal

abbrev pub invariant-loop-taken : goal.invariant-loop-taken
invariant-loop-taken g l = IsPlaced l.lanes l.gathered
