use Rattle.std.proofs.Common.{◌≡◌, drop}
use Rattle.overlay.specs.Ports.{with_each}
use Rattle.overlay.specs.PortsRules.{members_or_none, with_members}
use Rattle.overlay.proofs.ports.port_set.PortSet.put.Given as goal

abbrev pub invariant-loop-port : goal.invariant-loop-port
invariant-loop-port l =
    (l.self ≡ with_members l.fn.self l.vid (members_or_none l.self l.vid))
    × (with_each (drop l.port-index l.ports) l.egress (members_or_none l.self l.vid) ≡ with_each l.ports l.egress (members_or_none l.fn.self l.vid))
