-- The reasons of the layers, said of the text that stands behind the tags of a frame, and of an IP packet.
-- It serves proofs.
use Rattle.std.specs.Prelude.{◌==◌, Bool, not, List, [], ◌∷◌}
use Rattle.wire.specs.declared.ether.reason.Reason.{Reason}
use Rattle.wire.specs.declared.ether.reason.Reason.TheVariants.{Fragment, NotUdp, BadUdp}
use Rattle.wire.specs.Udp.{is_bad_udp}
use Rattle.overlay.specs.declared.underlay.settings.Underlay.{Underlay}
use Rattle.decapsulate.specs.Arrival as arrival
use Rattle.decapsulate.specs.Arrival.{Packet, sum_of}

-- why a packet is no datagram
abbrev pub udp_reasons : Packet → List (Reason × Bool)
udp_reasons p = (Fragment, p.is_fragment) ∷ (NotUdp, not (p.protocol == 17)) ∷ (BadUdp, is_bad_udp p.payload) ∷ []

-- why the checksum of its datagram isn't taken
abbrev pub sum_reasons : Underlay → Packet → List (Reason × Bool)
sum_reasons U p = arrival.sum_reasons U p.source (sum_of p)
