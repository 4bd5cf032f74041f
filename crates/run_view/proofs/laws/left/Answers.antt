use Rattle.run_view.proofs.Left.{whole_left}
use Rattle.run_view.proofs.Turned.{turned_read}
use Rattle.run_view.proofs.laws.left.Goals as goal

pub returns-clause-reads : goal.returns-clause-reads
returns-clause-reads c = turned_read

pub returns-clause-sent : goal.returns-clause-sent
returns-clause-sent c = whole_left
