use Rattle.std.proofs.Common.{arith}
use Rattle.json_lines.specs.Outcomes.{words}
use Rattle.json_lines.proofs.Fits.{fits_end, fits_few}
use Rattle.json_lines.proofs.members.put_value.Goals as goal

pub behind-requires : goal.behind-requires
behind-requires c = omega (arith, fits_few c.args.form.now (words c.args.line.now) c.requires)

pub behind-requires-in-Rest : goal.behind-requires-in-Rest
behind-requires-in-Rest c = omega (arith, fits_few c.args.form.now (words c.args.line.now) c.requires)

pub put_outcomes_of-requires : goal.put_outcomes_of-requires
put_outcomes_of-requires c = rw c.behind.ensures (fits_end c.args.form.now (words c.args.line.now) c.requires)
