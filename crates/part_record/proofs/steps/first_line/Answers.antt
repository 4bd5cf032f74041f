use Rattle.std.proofs.Common.{lit<}
use Rattle.std.proofs.lemmas.Str.Pattern.{split_parts}
use Rattle.part_record.proofs.Lines.{first_line_found}
use Rattle.part_record.proofs.steps.first_line.Goals as goal

pub returns : goal.returns
returns c = first_line_found c.args.text.now c.split_once.result (split_parts 10 c.args.text.now c.split_once.result c.split_once.ensures.cases (lit< tt))
