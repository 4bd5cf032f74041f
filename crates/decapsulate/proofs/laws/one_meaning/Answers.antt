use Rattle.decapsulate.proofs.ArrivesLemmas.{brings_what_arrives}
use Rattle.decapsulate.proofs.laws.one_meaning.Goals as goal

pub returns : goal.returns
returns c = brings_what_arrives
