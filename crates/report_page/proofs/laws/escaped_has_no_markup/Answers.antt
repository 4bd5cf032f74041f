use Rattle.report_page.proofs.Markup.{no_markup}
use Rattle.report_page.proofs.laws.escaped_has_no_markup.Goals as goal

pub returns : goal.returns
returns c = no_markup
