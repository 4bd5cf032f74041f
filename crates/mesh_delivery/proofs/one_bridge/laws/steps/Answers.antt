use Rattle.mesh_delivery.proofs.Behind.{state-step, state-other}
use Rattle.mesh_delivery.proofs.Ageing.{step-aged}
use Rattle.mesh_delivery.proofs.Deciding.{answered}
use Rattle.mesh_delivery.proofs.one_bridge.laws.steps.Goals as goal

pub returns : goal.returns
returns c = record {
  answer = λ s e x is. answered e.at s.bridges e.input x is;
  bridge = state-step;
  others = state-other;
  earlier = step-aged;
}
