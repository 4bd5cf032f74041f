use Rattle.std.proofs.Common.{ap, ◌∙◌, Some}
use Rattle.endpoint_core.specs.Counts.{Counts, one_more}
use Rattle.endpoint_core.proofs.counts.Counts.add.Goals as goal

pub returns-in-Some : goal.returns-in-Some
returns-in-Some c = rw c.in-Some.is (c.add_there.ensures.more ∙ ap (λ (counts : Counts). one_more counts (record { segment = Some c.in-Some.vid; number = c.args.number })) c.reach.ensures.same)
