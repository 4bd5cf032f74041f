use Rattle.std.proofs.Common.{ap}
use Rattle.part_merge.specs.Blame.{outputs_health}
use Rattle.part_merge.proofs.hand_on.hand_on_lines.Goals as goal

pub returns-in-Ok-clause-writes : goal.returns-in-Ok-clause-writes
returns-in-Ok-clause-writes g c = λ sinks underlay_sink. ap (outputs_health sinks underlay_sink) c.in-Ok.ensures.quiet
