use Rattle.record_match.proofs.Telling.{it_is_of_its_delays}
use Rattle.record_match.proofs.tables.laws.it_is_of_its_delays.Goals as goal

pub returns : goal.returns
returns c = it_is_of_its_delays
