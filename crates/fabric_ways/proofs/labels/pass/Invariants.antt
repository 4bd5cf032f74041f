use Rattle.fabric_ways.specs.Labels.{label_in}
use Rattle.fabric_ways.proofs.Labelling.{Passed}
use Rattle.fabric_ways.proofs.labels.pass.Given as goal

abbrev pub invariant-loop-link : goal.invariant-loop-link
invariant-loop-link l = Passed (label_in l.initial.labels) (label_in l.labels) l.links l.link-index l.new (0, 0)
