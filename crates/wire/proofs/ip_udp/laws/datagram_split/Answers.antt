use Rattle.wire.proofs.DatagramLemmas.{found-datagram, only-datagram}
use Rattle.wire.proofs.ip_udp.laws.datagram_split.Goals as goal

pub returns-clause-found : goal.returns-clause-found
returns-clause-found c = found-datagram

pub returns-clause-only : goal.returns-clause-only
returns-clause-only c = only-datagram
