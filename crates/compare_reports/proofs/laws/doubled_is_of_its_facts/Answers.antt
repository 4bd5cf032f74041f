use Rattle.compare_reports.proofs.Doubling.{doubled_is_of_its_facts}
use Rattle.compare_reports.proofs.laws.doubled_is_of_its_facts.Goals as goal

pub returns : goal.returns
returns c = doubled_is_of_its_facts
