use Rattle.wire.proofs.VxlanReading.{vxlan-found, vxlan-only, vxlan-sent}
use Rattle.wire.proofs.vxlan.laws.one_reading.Goals as goal

pub returns-clause-found : goal.returns-clause-found
returns-clause-found c = vxlan-found

pub returns-clause-only : goal.returns-clause-only
returns-clause-only c = vxlan-only

pub returns-clause-sent : goal.returns-clause-sent
returns-clause-sent c = vxlan-sent
