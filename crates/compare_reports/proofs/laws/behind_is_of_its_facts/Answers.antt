use Rattle.compare_reports.proofs.Ordering.{behind_is_of_its_facts}
use Rattle.compare_reports.proofs.laws.behind_is_of_its_facts.Goals as goal

pub returns : goal.returns
returns c = behind_is_of_its_facts
