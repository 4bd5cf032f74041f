-- How the value that contracts see of an index of segments is stored. It states no standard.
use Rattle.std.specs.Prelude.{refl, List}
use Rattle.std.specs.Coded.{Coded, code_by, coded×, coded_list}
use Rattle.overlay.specs.contracts.ports.port.PortRule as port
use Rattle.overlay.specs.declared.ports.port.PortRule.{PortRule}
use Rattle.overlay.specs.OverlayCode.{overlay_code}
use Rattle.overlay.specs.Overlay.{Overlay}
use Rattle.capture_compare.specs.Segments.{Index}

-- as the pair of its parts
abbrev pub index_code : Coded Index
index_code =
    code_by (Overlay × List PortRule) (coded× overlay_code (coded_list port.the_row.coded))
    (λ i. (i.overlay, i.ports)) (λ p. record { overlay = p.0; ports = p.1 }) (λ _. refl)
