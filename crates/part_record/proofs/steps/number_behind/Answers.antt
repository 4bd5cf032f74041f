use Rattle.std.proofs.Common.{decimal}
use Rattle.part_record.proofs.Lines.{behind_word, no_number}
use Rattle.part_record.proofs.steps.number_behind.Goals as goal

pub returns-in_default : goal.returns-in_default
returns-in_default c n rest is e =
    c.in_default.ensures (decimal n) rest (behind_word c.args.text.now c.args.word.now (decimal n) rest c.in_ok-told.told.now c.in_ok-told.ensures e)

pub returns-in_default-number_of : goal.returns-in_default-number_of
returns-in_default-number_of c =
    no_number c.args.text.now c.args.word.now c.in_ok-told.told.now c.in-Some.digits.now c.in-Some.rest.now c.in_ok-told.ensures c.in-Some.ensures.0 c.in-Some.ensures.1 c.in_default-number_of.ensures
