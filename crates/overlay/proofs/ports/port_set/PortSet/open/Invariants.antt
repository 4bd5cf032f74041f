use Rattle.std.proofs.Common.{◌≡◌, take}
use Rattle.overlay.specs.Ports.{told}
use Rattle.overlay.proofs.ports.port_set.PortSet.open.Given as goal

abbrev pub invariant-loop-rule : goal.invariant-loop-rule
invariant-loop-rule l = l.set ≡ told l.ports (take l.rule-index l.members)
