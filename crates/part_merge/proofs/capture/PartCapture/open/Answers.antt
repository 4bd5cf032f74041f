use Rattle.std.proofs.Common.{Ok, Err}
use Rattle.part_merge.proofs.Blaming.{open_reads}
use Rattle.part_merge.proofs.Copying.{opened}
use Rattle.part_merge.proofs.capture.PartCapture.open.Goals as goal

pub returns-in-Ok-clause-opened : goal.returns-in-Ok-clause-opened
returns-in-Ok-clause-opened g c = λ text rest. opened text c.args.source c.open.new.self (Ok c.in-Ok.field-0) rest c.in-Ok.ensures.opened c.in-Ok.ensures.answer

pub returns-in-Err-clause-opened : goal.returns-in-Err-clause-opened
returns-in-Err-clause-opened g c = λ text rest. opened text c.args.source c.open.new.self (Err c.in-Err.fault) rest c.in-Err.ensures.opened c.in-Err.ensures.answer

pub returns-in-Ok-clause-reads : goal.returns-in-Ok-clause-reads
returns-in-Ok-clause-reads g c = c.in-Ok.ensures.opened.quiet

pub returns-in-Err-clause-reads : goal.returns-in-Err-clause-reads
returns-in-Err-clause-reads g c = open_reads c.args.source c.open.new.self c.in-Err.fault c.in-Err.ensures.opened
