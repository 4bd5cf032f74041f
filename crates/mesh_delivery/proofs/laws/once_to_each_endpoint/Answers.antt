use Rattle.mesh_delivery.proofs.Steps.{once-to-each}
use Rattle.mesh_delivery.proofs.laws.once_to_each_endpoint.Goals as goal

pub returns : goal.returns
returns c = once-to-each
