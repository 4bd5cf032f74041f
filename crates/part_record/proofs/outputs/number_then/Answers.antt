use Rattle.part_record.proofs.OutputText.{no_number_then}
use Rattle.part_record.proofs.outputs.number_then.Goals as goal

pub returns-in_default-number_of : goal.returns-in_default-number_of
returns-in_default-number_of c =
    no_number_then c.args.text.now c.in-Some.digits.now c.in-Some.rest.now c.in-Some.ensures.0 c.in-Some.ensures.1 c.in_default-number_of.ensures
