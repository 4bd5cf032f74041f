use Rattle.record_match.proofs.Counting.{each_row_is_of_its_facts}
use Rattle.record_match.proofs.tables.laws.each_row_is_of_its_facts.Goals as goal

pub returns : goal.returns
returns c = each_row_is_of_its_facts
