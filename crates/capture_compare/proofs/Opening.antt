-- What settings make of an index.
use Rattle.std.proofs.Common.{◌≡◌, ℕ, List, map, refl, subst}
use Rattle.overlay.specs.declared.ports.port.PortRule.{PortRule}
use Rattle.overlay.specs.Overlay.{Overlay, told}
use Rattle.overlay.specs.declared.underlay.segment.TunnelRule.{TunnelRule}
use Rattle.overlay.specs.declared.underlay.settings.Underlay.{Underlay}
use Rattle.overlay.specs.Settings.{Settings, tunnel_rule}
use Rattle.overlay.specs.declared.settings.segment.SegmentRule.{SegmentRule}
use Rattle.capture_compare.specs.Segments.{Index, index_of}

abbrev index : Overlay → List PortRule → Index
index overlay ports = record { overlay = overlay; ports = ports }

abbrev settings : Underlay → List PortRule → List SegmentRule → ℕ → Settings
settings u ports segments pool = record { underlay = u; ports = ports; segments = segments; pool = pool }

pub opened : (s : Settings) (u : Underlay) (ports : List PortRule) (segments : List SegmentRule) (pool : ℕ) (rules : List TunnelRule)
    (overlay : Overlay) → settings u ports segments pool ≡ s → rules ≡ map tunnel_rule segments → overlay ≡ told u rules
    → index overlay ports ≡ index_of s
opened s u ports segments pool rules overlay same r o =
    subst (λ (x : Settings). index overlay ports ≡ index_of x) same (rw (o, r) refl)
