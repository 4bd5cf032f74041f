use Rattle.std.proofs.lemmas.List.{take_rest}
use Rattle.json_lines.proofs.Splits.{split_found, split_lacks}
use Rattle.json_lines.proofs.cut.cut_first.Goals as goal

pub returns-in-Some-clause-parts : goal.returns-in-Some-clause-parts
returns-in-Some-clause-parts c = rw take_rest (split_found c.args.octet c.args.text.now c.in-Some.at c.in-Some.ensures)

pub returns-in-None-clause-parts : goal.returns-in-None-clause-parts
returns-in-None-clause-parts c = split_lacks c.args.octet c.args.text.now c.in-None.ensures
