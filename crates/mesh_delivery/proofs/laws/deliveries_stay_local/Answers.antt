use Rattle.mesh_delivery.proofs.Steps.{deliveries-stay-local}
use Rattle.mesh_delivery.proofs.laws.deliveries_stay_local.Goals as goal

pub returns : goal.returns
returns c = deliveries-stay-local
