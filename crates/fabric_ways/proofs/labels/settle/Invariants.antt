use Rattle.std.proofs.Common.{ℕ}
use Rattle.fabric_ways.specs.Labels.{label_in, IsFaithful, Links, weigh}
use Rattle.fabric_ways.proofs.labels.settle.Given as goal

abbrev pub invariant-loop-labels : goal.invariant-loop-labels
invariant-loop-labels l = (f : ℕ → ℕ) → Links f l.links → IsFaithful f (label_in l.labels)

abbrev pub decreases-loop-labels : goal.decreases-loop-labels
decreases-loop-labels l = weigh (label_in l.labels) l.links
