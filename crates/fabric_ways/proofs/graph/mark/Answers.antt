use Rattle.std.proofs.Common.{rules, arith}
use Rattle.fabric_ways.proofs.Marking.{Marked-more}
use Rattle.fabric_ways.proofs.graph.mark.Goals as goal

pub loop-t-preserved : goal.loop-t-preserved
loop-t-preserved c =
    Marked-more _ _ _ _ _ _ _ _ c.loop-t.invariant (search rules) (omega (arith, c.requires c.loop-t.t-index (omega arith))) c.put-is_new.ensures.value c.put-is_new.ensures.same c.put-is_new.ensures.fewer

pub returns-clause-within : goal.returns-clause-within
returns-clause-within c = λ p h w. c.loop-t.invariant.within p (λ k lt. h k (omega arith)) w
