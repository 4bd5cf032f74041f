use Rattle.std.proofs.Common.{subst}
use Rattle.std.specs.List.{FoldsTo}
use Rattle.record_match.specs.Compared.{Counted}
use Rattle.record_match.specs.Settled.{held_alone}
use Rattle.record_match.proofs.comparison.Comparison.finish.Goals as goal

pub returns-clause-seen : goal.returns-clause-seen
returns-clause-seen g c =
    subst (λ (v : Counted). FoldsTo g.W.Onlooker.sees c.args.onlooker.now (held_alone v.window.records v.window.held) c.finish.new.onlooker) c.self.view_is c.finish.ensures.seen
