use Rattle.endpoint_core.proofs.LaterLemmas.{held-later}
use Rattle.endpoint_core.proofs.state.laws.ageing.Goals as goal

pub returns : goal.returns
returns c = held-later
