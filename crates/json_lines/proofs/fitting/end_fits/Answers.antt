use Rattle.json_lines.proofs.Fits.{end_here, end_outcomes, end_rest}
use Rattle.json_lines.proofs.fitting.end_fits.Goals as goal

pub returns-in-Here-end : goal.returns-in-Here-end
returns-in-Here-end c = end_here c.args.end c.args.behind c.in-Some.text c.in-Some.is c.in-Here-end.is

pub returns-in-Rest : goal.returns-in-Rest
returns-in-Rest c = end_rest c.args.end c.args.behind c.in-Some.text c.in-Some.is c.in-Rest.is

pub returns-in-Outcomes : goal.returns-in-Outcomes
returns-in-Outcomes c =
    end_outcomes c.args.end c.args.behind c.in-Some.text c.are_outcomes.result c.in-Some.is c.in-Outcomes.is c.are_outcomes.ensures
