use Rattle.part_record.proofs.RecordText.{has_one_whole}
use Rattle.part_record.proofs.laws.one_text_each.Goals as goal

pub returns : goal.returns
returns c = has_one_whole
