use Rattle.part_record.proofs.OutputText.{line_found}
use Rattle.part_record.proofs.outputs.output_behind.Goals as goal

pub returns : goal.returns
returns c = line_found c.args.text.now c.args.place c.in_ok-told.told.now c.numbers_told.result c.in_ok-told.ensures c.numbers_told.ensures
