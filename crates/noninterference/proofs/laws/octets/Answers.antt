use Rattle.noninterference.proofs.Octets.{captures-written, decisions-numbered, numbers-lines}
use Rattle.noninterference.proofs.laws.octets.Goals as goal

pub returns-clause-captures : goal.returns-clause-captures
returns-clause-captures c = captures-written

pub returns-clause-told : goal.returns-clause-told
returns-clause-told c = decisions-numbered

pub returns-clause-numbers : goal.returns-clause-numbers
returns-clause-numbers c = numbers-lines
