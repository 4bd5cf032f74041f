use Rattle.tenants_apart.proofs.Vnis.{apart-told, apart-after, packet-own}
use Rattle.tenants_apart.proofs.laws.vnis.Goals as goal

pub returns : goal.returns
returns c = record {
  told = apart-told;
  kept = apart-after;
  own_packets = λ vid needs S T original b apart other underlay here. packet-own vid S.overlay T.overlay underlay here apart other original b;
}
