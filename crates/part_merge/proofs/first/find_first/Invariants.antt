use Rattle.part_merge.specs.Firsts.{FindsFirst}
use Rattle.part_merge.proofs.first.find_first.Given as goal

-- of the parts so far it is the first
abbrev pub invariant-loop-index : goal.invariant-loop-index
invariant-loop-index g l = FindsFirst l.parts l.index l.first
