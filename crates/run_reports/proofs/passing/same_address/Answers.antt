use Rattle.std.proofs.Common.{◌∙◌}
use Rattle.std.specs.Cmp.Lexicographic.{texts_ties}
use Rattle.run_reports.proofs.passing.same_address.Goals as goal

pub returns : goal.returns
returns c = c.eq.ensures ∙ texts_ties c.args.left c.args.right
