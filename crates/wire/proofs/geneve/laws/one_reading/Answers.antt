use Rattle.wire.proofs.PacketLemmas.{geneve-found, geneve-only, geneve-sent}
use Rattle.wire.proofs.geneve.laws.one_reading.Goals as goal

pub returns-clause-found : goal.returns-clause-found
returns-clause-found c = geneve-found

pub returns-clause-only : goal.returns-clause-only
returns-clause-only c = geneve-only

pub returns-clause-sent : goal.returns-clause-sent
returns-clause-sent c = geneve-sent
