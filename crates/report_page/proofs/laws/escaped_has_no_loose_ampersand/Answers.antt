use Rattle.report_page.proofs.Markup.{no_loose_ampersand}
use Rattle.report_page.proofs.laws.escaped_has_no_loose_ampersand.Goals as goal

pub returns : goal.returns
returns c = no_loose_ampersand
