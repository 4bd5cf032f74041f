use Rattle.capture_compare.proofs.Alike as alike
use Rattle.capture_compare.proofs.lonely.laws.each_row_counts_its_pairs.Goals as goal

pub returns-clause-each : goal.returns-clause-each
returns-clause-each c = alike.each_row_counts_its_pairs

pub returns-clause-none : goal.returns-clause-none
returns-clause-none c = alike.each_pair_has_a_row
