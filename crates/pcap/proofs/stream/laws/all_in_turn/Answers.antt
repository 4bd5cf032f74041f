use Rattle.pcap.proofs.Runs.{lends_all_that_is_there, lends_what_is_there}
use Rattle.pcap.proofs.stream.laws.all_in_turn.Goals as goal

pub returns-clause-first : goal.returns-clause-first
returns-clause-first c = lends_what_is_there

pub returns-clause-all : goal.returns-clause-all
returns-clause-all c = lends_all_that_is_there
