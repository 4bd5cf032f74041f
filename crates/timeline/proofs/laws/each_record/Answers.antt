use Rattle.timeline.proofs.Records.{tells_each_record}
use Rattle.timeline.proofs.laws.each_record.Goals as goal

pub returns : goal.returns
returns c = tells_each_record
