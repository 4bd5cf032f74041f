use Rattle.wire.proofs.UdpLemmas.{found-udp, only-udp, none-udp}
use Rattle.wire.proofs.ip_udp.laws.udp_split.Goals as goal

pub returns-clause-found : goal.returns-clause-found
returns-clause-found c = found-udp

pub returns-clause-only : goal.returns-clause-only
returns-clause-only c = only-udp

pub returns-clause-none : goal.returns-clause-none
returns-clause-none c = none-udp
