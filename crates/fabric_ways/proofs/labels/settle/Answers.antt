use Rattle.fabric_ways.proofs.labels.settle.Goals as goal

pub returns-then-not-branch-clause-faithful : goal.returns-then-not-branch-clause-faithful
returns-then-not-branch-clause-faithful c = λ f all. c.in_ok-pass.ensures.keeps f all (c.loop-labels.invariant f all)

pub loop-labels-preserved : goal.loop-labels-preserved
loop-labels-preserved c = λ f all. c.in_ok-pass.ensures.keeps f all (c.loop-labels.invariant f all)
