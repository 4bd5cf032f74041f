use Rattle.std.proofs.Common.{sym}
use Rattle.json_lines.specs.Outcomes.{words}
use Rattle.json_lines.proofs.Fits.{find_fits}
use Rattle.json_lines.proofs.object.put_begun.Goals as goal

pub put_members-requires : goal.put_members-requires
put_members-requires c = find_fits (words c.args.line.now) c.args.forms.now c.in-Some.form.now (sym c.in-Some.ensures)
