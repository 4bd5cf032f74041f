use Rattle.part_record.proofs.Reading.{no_first}
use Rattle.part_record.proofs.read.head_of.Goals as goal

pub returns-in-None : goal.returns-in-None
returns-in-None c = no_first c.args.text.now c.in_default.ensures c.in-None.ensures
