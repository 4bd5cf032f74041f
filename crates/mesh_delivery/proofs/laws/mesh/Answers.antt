use Rattle.mesh_delivery.proofs.Meshes.{mesh-once, mesh-offspring}
use Rattle.mesh_delivery.proofs.laws.mesh.Goals as goal

pub returns : goal.returns
returns c = record { once = mesh-once; offspring = mesh-offspring }
