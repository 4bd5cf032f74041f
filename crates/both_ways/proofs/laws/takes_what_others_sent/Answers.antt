use Rattle.both_ways.proofs.Others.{takes_what_others_sent}
use Rattle.both_ways.proofs.laws.takes_what_others_sent.Goals as goal

pub returns : goal.returns
returns c = takes_what_others_sent
