use Rattle.record_match.proofs.Meeting.{held_is_enough}
use Rattle.record_match.proofs.laws.held_is_enough.Goals as goal

pub returns : goal.returns
returns c = held_is_enough
