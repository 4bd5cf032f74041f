use Rattle.std.proofs.Common.{sym}
use Rattle.line_stream.proofs.Ends.{none_held, one_held}
use Rattle.line_stream.proofs.find.has_line.Goals as goal

pub returns-in-Some : goal.returns-in-Some
returns-in-Some c = sym (one_held c.args.text.now c.in-Some.field-0 c.in-Some.ensures)

pub returns-in-None : goal.returns-in-None
returns-in-None c = sym (none_held c.args.text.now c.in-None.ensures)
