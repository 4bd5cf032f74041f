use Rattle.decapsulate.proofs.ArrivesLemmas.{from_texts}
use Rattle.mesh_delivery.proofs.PeerLemmas.{peer}
use Rattle.mesh_delivery.proofs.peers.peer.Goals as goal

pub returns : goal.returns
returns c = peer from_texts
