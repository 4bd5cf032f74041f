use Rattle.std.proofs.Common.{ap}
use Rattle.part_merge.specs.Blame.{outputs_health}
use Rattle.part_merge.proofs.part.put_line.Goals as goal

pub returns-in-Ok-clause-writes : goal.returns-in-Ok-clause-writes
returns-in-Ok-clause-writes g c = λ sinks underlay_sink. ap (outputs_health sinks underlay_sink) c.in-Ok.ensures.quiet

pub returns-in-Err-clause-writes : goal.returns-in-Err-clause-writes
returns-in-Err-clause-writes g c = λ sinks underlay_sink. c.in-Err.ensures.cause
