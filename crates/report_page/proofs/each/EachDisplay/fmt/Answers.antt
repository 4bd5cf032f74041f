use Rattle.std.proofs.Common.{rules}
use Rattle.std.proofs.Output.{has_written_append, has_written_of_eq}
use Rattle.report_page.proofs.Numbers.{each_more}
use Rattle.report_page.specs.Texts.{each}
use Rattle.report_page.proofs.each.EachDisplay.fmt.Goals as goal

pub loop-index-init : goal.loop-index-init
unfolding each
loop-index-init g c = search rules

pub loop-index-preserved : goal.loop-index-preserved
loop-index-preserved g c = λ plain.
    has_written_of_eq _ _ _ _ _ (each_more (g.P.Parts.part c.args.self.now.0) c.loop-index.index)
    (has_written_append _ _ _ _ _ _ (c.loop-index.invariant plain) (search rules))
