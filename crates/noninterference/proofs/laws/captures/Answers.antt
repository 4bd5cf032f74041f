use Rattle.noninterference.proofs.Runs.{records-same, told-same}
use Rattle.noninterference.proofs.laws.captures.Goals as goal

pub returns-clause-records : goal.returns-clause-records
returns-clause-records c = records-same

pub returns-clause-told : goal.returns-clause-told
returns-clause-told c = told-same
