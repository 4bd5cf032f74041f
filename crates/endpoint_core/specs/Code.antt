-- How what an endpoint holds is stored as a value. It states no standard.
use Rattle.std.specs.Prelude.{refl, Bool, List}
use Rattle.std.specs.Coded.{Coded, code_by, coded×, coded_bool, coded_list}
use Rattle.shared_tables.specs.Shared.{Shared}
use Rattle.shared_tables.specs.contracts.shared_tables.SharedTables as tables
use Rattle.overlay.specs.Ports.{Ports}
use Rattle.overlay.specs.PortsCode.{ports_code}
use Rattle.overlay.specs.Overlay.{Overlay}
use Rattle.overlay.specs.OverlayCode.{overlay_code}
use Rattle.endpoint_core.specs.Held.{Held}

-- stored as its four parts
abbrev pub held_code : Coded Held
held_code =
    code_by (Ports × (Overlay × (Shared × List Bool)))
    (coded× ports_code (coded× overlay_code (coded× tables.the_row.coded (coded_list coded_bool))))
    (λ h. (h.ports, (h.under, (h.tables, h.learning))))
    (λ p. record { ports = p.0; under = p.1.0; tables = p.1.1.0; learning = p.1.1.1 }) (λ _. refl)
