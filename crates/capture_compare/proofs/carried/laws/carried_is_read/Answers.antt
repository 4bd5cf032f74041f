use Rattle.capture_compare.proofs.Carrying.{geneve-carried, vxlan-carried}
use Rattle.capture_compare.proofs.carried.laws.carried_is_read.Goals as goal

pub returns-clause-vxlan : goal.returns-clause-vxlan
returns-clause-vxlan c = vxlan-carried

pub returns-clause-geneve : goal.returns-clause-geneve
returns-clause-geneve c = geneve-carried
