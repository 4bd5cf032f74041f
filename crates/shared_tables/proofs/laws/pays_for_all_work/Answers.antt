use Rattle.shared_tables.proofs.OnCalls.WorkLemmas.{paid_by_calls}
use Rattle.shared_tables.proofs.laws.pays_for_all_work.Goals as goal

pub returns : goal.returns
returns c = paid_by_calls
