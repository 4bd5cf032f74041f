-- How the value that contracts see of settings is stored. It states no standard.
use Rattle.std.specs.Prelude.{refl, ℕ, List}
use Rattle.std.specs.Coded.{Coded, code_by, coded×, coded_ℕ, coded_list}
use Rattle.overlay.specs.contracts.ports.port.PortRule as port
use Rattle.overlay.specs.declared.ports.port.PortRule.{PortRule}
use Rattle.overlay.specs.contracts.underlay.settings.Underlay as settings
use Rattle.overlay.specs.declared.underlay.settings.Underlay.{Underlay}
use Rattle.overlay.specs.contracts.settings.segment.SegmentRule as segment
use Rattle.overlay.specs.declared.settings.segment.SegmentRule.{SegmentRule}
use Rattle.overlay.specs.Settings.{Settings}

-- settings are stored as the tuple of their parts
abbrev pub settings_code : Coded Settings
settings_code =
    code_by (Underlay × (List PortRule × (List SegmentRule × ℕ)))
    (coded× settings.the_row.coded (coded× (coded_list port.the_row.coded) (coded× (coded_list segment.the_row.coded) coded_ℕ)))
    (λ s. (s.underlay, (s.ports, (s.segments, s.pool))))
    (λ p. record { underlay = p.0; ports = p.1.0; segments = p.1.1.0; pool = p.1.1.1 })
    (λ _. refl)
