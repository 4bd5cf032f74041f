use Rattle.part_record.proofs.LeftTexts.{texts_are}
use Rattle.part_record.proofs.texts.texts_of.Goals as goal

pub returns-clause-all : goal.returns-clause-all
returns-clause-all c texts are e =
    texts_are c.args.text.now c.text_behind-tables.result.1.now c.text_behind-summary.result.1.now
    (record { tables = c.text_behind-tables.result.0; summary = c.text_behind-summary.result.0 }) texts
    (record { tables = c.text_behind-tables.ensures.told; summary = c.text_behind-summary.ensures.told }) are
    c.text_behind-tables.ensures.none c.text_behind-summary.ensures.none c.text_behind-tables.ensures.read c.text_behind-summary.ensures.read e
