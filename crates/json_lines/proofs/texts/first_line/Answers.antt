use Rattle.json_lines.proofs.Values.{lines_last, lines_more}
use Rattle.json_lines.proofs.texts.first_line.Goals as goal

pub returns-in-Some-clause-lines : goal.returns-in-Some-clause-lines
returns-in-Some-clause-lines c = lines_more c.args.text.now c.in-Some.parts.0.now c.in-Some.parts.1.now c.in-Some.ensures.parts

pub returns-in-None-clause-lines : goal.returns-in-None-clause-lines
returns-in-None-clause-lines c = lines_last c.args.text.now c.requires c.in-None.ensures.parts
