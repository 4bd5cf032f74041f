use Rattle.part_record.proofs.outputs.behind_word.Goals as goal

pub returns-in-0 : goal.returns-in-0
returns-in-0 c = rw c.in-0.is c.behind.ensures
