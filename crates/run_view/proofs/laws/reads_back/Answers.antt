use Rattle.run_view.proofs.Lines.{all_records}
use Rattle.run_view.proofs.Reading.{whole_read}
use Rattle.run_view.proofs.laws.reads_back.Goals as goal

pub returns-clause-reads : goal.returns-clause-reads
returns-clause-reads c = whole_read

pub returns-clause-came : goal.returns-clause-came
returns-clause-came c = all_records
