use Rattle.line_words.proofs.Splits.{behind_found}
use Rattle.part_lines.proofs.Splits.{spaces_found, spaces_lacks}
use Rattle.part_lines.proofs.words.field_behind.Goals as goal

pub returns-in-Some : goal.returns-in-Some
returns-in-Some c = (
  behind_found 32 c.args.line.now c.args.from c.in-Some.end c.in-Some.ensures,
  spaces_found c.args.line.now c.args.from c.in-Some.end c.in-Some.ensures,
)

pub returns-in-None : goal.returns-in-None
returns-in-None c = spaces_lacks c.args.line.now c.args.from c.in-None.ensures
