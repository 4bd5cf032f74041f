-- The steps by which settings are read, one behind the other.
use Rattle.std.proofs.Common.{◌≡◌, ℕ, codes, List, [], Option, length, Ok}
use Rattle.toml.specs.Data.{Data, Members}
use Rattle.overlay.specs.declared.ports.port.PortRule.{PortRule}
use Rattle.overlay.specs.declared.underlay.limits.Limits.{Limits}
use Rattle.overlay.specs.declared.underlay.settings.Underlay.{Underlay}
use Rattle.overlay.specs.UnderlaySettings.{own}
use Rattle.config_text.specs.Fault.{◌>>=◌}
use Rattle.config_text.specs.Table.{Place, top, subtable, required_items, each}
use Rattle.overlay.specs.Settings.{Settings}
use Rattle.overlay.specs.declared.settings.segment.SegmentRule.{SegmentRule}
use Rattle.overlay_config.specs.declared.version.Version.{Version}
use Rattle.overlay_config.specs.Limits.{addresses_in, limits_of}
use Rattle.overlay_config.specs.Port.{port_of}
use Rattle.overlay_config.specs.Underlay.{underlay_of}
use Rattle.overlay_config.specs.Settings.{version_of, given_pool_of, segments_of, pool_for, settings_of}
use Rattle.overlay_config.proofs.Readings.{bind_then}

-- what each step gives, where these are the settings
pub steps_of : {P : Type 0} (ms : Members) (s : Settings) → settings_of ms ≡ Ok s
    → ((version : Version) → version_of (top ms) ≡ Ok version
    → (given : Option ℕ) → given_pool_of (addresses_in (limits_of version (top ms))) (top ms) ≡ Ok given
    → (limits : Limits) → limits_of version (top ms) ≡ Ok limits
    → (below : Place) → subtable (top ms) (codes "underlay") ≡ Ok below
    → (underlay : Underlay) → underlay_of version limits below ≡ Ok underlay
    → (tables : List Data) → required_items (top ms) (codes "port") limits.ports ≡ Ok tables
    → (ports : List PortRule) → each (λ earlier at. port_of at) (codes "port") [] tables ≡ Ok ports
    → (segments : List SegmentRule) → segments_of version limits (own underlay) (length ports) (top ms) ≡ Ok segments
    → (pool_for given segments >>= λ pool. Ok (record { underlay = underlay; ports = ports; segments = segments; pool = pool })) ≡ Ok s
    → P)
    → P
unfolding settings_of
steps_of ms s e next =
    bind_then (version_of (top ms)) _ s e (λ version version-is e0.
    bind_then (given_pool_of (addresses_in (limits_of version (top ms))) (top ms)) _ s e0 (λ given given-is e1.
    bind_then (limits_of version (top ms)) _ s e1 (λ limits limits-is e2.
    bind_then (subtable (top ms) (codes "underlay")) _ s e2 (λ below below-is e3.
    bind_then (underlay_of version limits below) _ s e3 (λ underlay underlay-is e4.
    bind_then (required_items (top ms) (codes "port") limits.ports) _ s e4 (λ tables tables-is e5.
    bind_then (each (λ earlier at. port_of at) (codes "port") [] tables) _ s e5 (λ ports ports-is e6.
    bind_then (segments_of version limits (own underlay) (length ports) (top ms)) _ s e6 (λ segments segments-is e7.
    next version version-is given given-is limits limits-is below below-is underlay underlay-is tables tables-is ports ports-is segments segments-is e7))))))))
