use Rattle.tenants_apart.proofs.LeftRuns.{left-ended, left-at_a_fault, left-at_a_read}
use Rattle.tenants_apart.proofs.runs.left.Goals as goal

pub returns : goal.returns
returns c = record { ended = left-ended; at_a_fault = left-at_a_fault; at_a_read = left-at_a_read }
