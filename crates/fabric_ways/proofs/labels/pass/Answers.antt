use Rattle.std.proofs.Common.{rules}
use Rattle.fabric_ways.specs.Labels.{label_in}
use Rattle.fabric_ways.proofs.Labelling.{Passed-more}
use Rattle.fabric_ways.proofs.labels.pass.Goals as goal

pub loop-link-preserved : goal.loop-link-preserved
loop-link-preserved c =
    Passed-more (label_in c.args.labels.now) (label_in c.loop-link.labels) (label_in c.join.new.labels) c.args.links.now c.loop-link.link-index c.loop-link.new
    c.in_ok-two.two (0, 0) c.loop-link.invariant (search rules) (record {
      lower = c.in_ok-two.ensures.lower;
      keeps = c.in_ok-two.ensures.keeps;
      same = c.in_ok-two.ensures.same;
      fewer = c.in_ok-two.ensures.fewer;
    })
