use Rattle.wire.proofs.IpLemmas.{found-ip, only-ip, none-ip}
use Rattle.wire.proofs.ip_udp.laws.ip_split.Goals as goal

pub returns-clause-found : goal.returns-clause-found
returns-clause-found c = found-ip

pub returns-clause-only : goal.returns-clause-only
returns-clause-only c = only-ip

pub returns-clause-none : goal.returns-clause-none
returns-clause-none c = none-ip
