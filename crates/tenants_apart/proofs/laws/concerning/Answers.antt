use Rattle.tenants_apart.proofs.Coming.{frame-own}
use Rattle.tenants_apart.proofs.Force.{frame-in_force, packet-in_force, change-in_force}
use Rattle.tenants_apart.proofs.laws.concerning.Goals as goal

pub returns : goal.returns
returns c = record {
  frames = λ vid needs S es t port original b. frame-in_force vid needs S es t port original b;
  packets = λ vid needs S es t original b. packet-in_force vid needs S es t original b;
  changes = λ vid needs S es t change. change-in_force vid needs S es t change;
  own_frames = λ vid needs S T port original b rule members. frame-own vid S.ports T.ports S.overlay T.overlay port rule members original b;
}
