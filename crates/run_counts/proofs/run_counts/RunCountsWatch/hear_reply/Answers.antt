use Rattle.std.proofs.Common.{[], ◌∷◌, ◌++◌}
use Rattle.run_counts.proofs.run_counts.RunCountsWatch.hear_reply.Goals as goal

pub returns : goal.returns
returns c before d expects es given is = c.count_reply.ensures (es ++ d.event ∷ []) given (expects es given is)
