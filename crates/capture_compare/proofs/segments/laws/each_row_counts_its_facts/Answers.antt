use Rattle.capture_compare.proofs.Tallies.{each_row_counts_its_facts}
use Rattle.capture_compare.proofs.segments.laws.each_row_counts_its_facts.Goals as goal

pub returns : goal.returns
returns c = each_row_counts_its_facts
