-- How the values that contracts see of the ports are stored. It states no standard.
use Rattle.std.specs.Prelude.{refl, List, Option}
use Rattle.std.specs.Coded.{Coded, code_by, coded×, coded_ℕ, coded_list, coded_option}
use Rattle.std.specs.FinMap.{code}
use Rattle.overlay.specs.Ports.{Ports, Members, Segments}
use Rattle.overlay.specs.Row.{Row}
use Rattle.overlay.specs.contracts.ports.member.Egress as egress
use Rattle.overlay.specs.contracts.ports.port.PortRule as port_rule
use Rattle.overlay.specs.declared.ports.port.PortRule.{PortRule}

-- members are stored as pairs of a port and how frames leave there
abbrev pub members_code : Coded Members
members_code = code coded_ℕ egress.the_row.coded

-- ports and segments are stored as the pair of both
abbrev pub ports_code : Coded Ports
ports_code =
    code_by (List PortRule × Segments) (coded× (coded_list port_rule.the_row.coded) (code coded_ℕ members_code))
    (λ s. (s.ports, s.segments)) (λ p. record { ports = p.0; segments = p.1 }) (λ _. refl)

-- a row is stored as the pair of its ports and its members
abbrev pub row_code : Coded Row
row_code =
    code_by (List PortRule × Option Members) (coded× (coded_list port_rule.the_row.coded) (coded_option members_code))
    (λ r. (r.ports, r.members)) (λ p. record { ports = p.0; members = p.1 }) (λ _. refl)
