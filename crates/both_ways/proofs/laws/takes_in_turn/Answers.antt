use Rattle.both_ways.proofs.Turns.{takes_in_turn}
use Rattle.both_ways.proofs.laws.takes_in_turn.Goals as goal

pub returns : goal.returns
returns c = takes_in_turn
