use Rattle.noninterference.proofs.Asked.{changes-told}
use Rattle.noninterference.proofs.Sources.{captures-as_they_are, captures-told}
use Rattle.noninterference.proofs.laws.sources.Goals as goal

pub returns-clause-read : goal.returns-clause-read
returns-clause-read c = captures-told

pub returns-clause-own_moments : goal.returns-clause-own_moments
returns-clause-own_moments c = captures-as_they_are

pub returns-clause-changes : goal.returns-clause-changes
returns-clause-changes c = changes-told
