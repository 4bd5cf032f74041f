use Rattle.std.proofs.Common.{◌∙◌, ℕ, ap}
use Rattle.endpoint_core.specs.Cells.{count_in}
use Rattle.endpoint_core.specs.Counts.{one_more}
use Rattle.endpoint_core.proofs.counts.Counts.tally.Goals as goal

pub returns-in-Err : goal.returns-in-Err
returns-in-Err c =
    rw c.in-Err.is (c.add.ensures ∙ ap (λ (n : ℕ). one_more (count_in c.args.self.now) (record { segment = c.in-Err.refused.segment; number = n })) c.number.ensures.value)
