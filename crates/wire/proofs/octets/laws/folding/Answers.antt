use Rattle.wire.proofs.SumLemmas.{folded-word, folded-carries, check-completes}
use Rattle.wire.proofs.octets.laws.folding.Goals as goal

pub returns-clause-stays : goal.returns-clause-stays
returns-clause-stays c = folded-word

pub returns-clause-carries : goal.returns-clause-carries
returns-clause-carries c = folded-carries

pub returns-clause-completes : goal.returns-clause-completes
returns-clause-completes c = check-completes
