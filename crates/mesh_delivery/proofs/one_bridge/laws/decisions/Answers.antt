use Rattle.std.proofs.Common.{refl}
use Rattle.mesh_delivery.proofs.Behind.{decision-step, after-step, after-other}
use Rattle.mesh_delivery.proofs.one_bridge.laws.decisions.Goals as goal

pub returns : goal.returns
returns c = record { answer = decision-step; bridge = after-step; others = after-other; begins = λ S vid. refl }
