use Rattle.check_on_files.proofs.Refusing.{tells_nothing_of_tables}
use Rattle.check_on_files.proofs.foreseen.laws.whatever_the_tables.Goals as goal

pub returns : goal.returns
returns c = tells_nothing_of_tables
