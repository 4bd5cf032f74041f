use Rattle.stream_run.specs.Turns.{IsFirstSoFar}
use Rattle.stream_run.proofs.order.find_first.Given as goal

-- of the turns so far it is the first
abbrev pub invariant-loop-index : goal.invariant-loop-index
invariant-loop-index l = IsFirstSoFar l.turns l.index l.first
