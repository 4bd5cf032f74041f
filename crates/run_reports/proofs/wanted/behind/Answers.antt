use Rattle.run_reports.proofs.Seeking.{stripped}
use Rattle.run_reports.proofs.wanted.behind.Goals as goal

pub returns : goal.returns
returns c = stripped c.args.letters.now c.args.text.now _ c.strip_prefix.ensures.cases
