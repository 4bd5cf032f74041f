use Rattle.std.proofs.Common.{rules}
use Rattle.config_text.proofs.Cuts.{cut_none, cut_at_first}
use Rattle.std.proofs.lemmas.List.{take_rest}
use Rattle.config_text.proofs.parts.cut.Goals as goal

pub returns-in_err-at-clause-value : goal.returns-in_err-at-clause-value
returns-in_err-at-clause-value c = rw (c.from_residual.ensures, cut_none c.args.separator c.args.text.now (search rules))

pub returns-clause-value : goal.returns-clause-value
returns-clause-value c =
    let text = c.args.text.now in
    rw (cut_at_first c.args.separator text c.in_ok-at.at (search rules) (search rules) (search rules), take_rest)
