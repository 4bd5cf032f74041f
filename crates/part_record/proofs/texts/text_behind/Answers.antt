use Rattle.part_record.proofs.LeftTexts.{no_text}
use Rattle.part_record.proofs.texts.text_behind.Goals as goal

pub returns-in-None-clause-none : goal.returns-in-None-clause-none
returns-in-None-clause-none c = no_text c.args.text.now c.args.word.now c.in-Some.told.now c.in-Some.ensures c.in-None.ensures
