use Rattle.encapsulate.proofs.FittingLemmas.{fitting}
use Rattle.encapsulate.proofs.laws.fitting.Goals as goal

pub returns : goal.returns
returns c = fitting
