-- The keys of `segment.k`. It states no standard.
use Rattle.std.specs.Prelude.{ℕ, List, [], ◌∷◌, ◌++◌, ◌+◌, length, Bool, true, false, ◌||◌, ◌==◌, Ok, codes}
use Rattle.std.specs.List.{list_any}
use Rattle.overlay.specs.declared.flood.own.Own.{Own}
use Rattle.overlay.specs.declared.underlay.limits.Limits.{Limits}
use Rattle.overlay.specs.declared.underlay.tunnels.SegmentTunnel.{SegmentTunnel}
use Rattle.overlay.specs.Overlay as overlay
use Rattle.overlay.specs.declared.settings.segment.SegmentRule.{SegmentRule}
use Rattle.overlay.specs.Settings.{tunnel_rule}
use Rattle.config_text.specs.declared.fault.SettingsFault.TheVariants.{TwoSegments}
use Rattle.config_text.specs.Fault.{Meaning, ◌>>=◌}
use Rattle.config_text.specs.Column.{range}
use Rattle.config_text.specs.Table.{Place, only, required, refuse_if, numbered}
use Rattle.overlay_config.specs.declared.local_rules.LocalRules.{LocalRules}
use Rattle.overlay_config.specs.declared.version.Version.{Version}
use Rattle.overlay_config.specs.declared.version.Version.TheVariants.{One, Two, Three}
use Rattle.overlay_config.specs.LocalRules.{local_of, with_tunnels}
use Rattle.overlay_config.specs.Tunnel.{TunnelRules, tunnel_of, flood_of, tunnels_of}

-- a segment with this VID, or with a tunnel of the kind and VNI of one of these
abbrev pub is_alike : ℕ → List SegmentTunnel → SegmentRule → Bool
is_alike vid tunnels s = (s.vid == vid) || list_any (λ t. overlay.has_tunnel t.kind t.vni (overlay.segment_of (tunnel_rule s))) tunnels

-- one of these segments is so
abbrev pub is_taken : ℕ → List SegmentTunnel → List SegmentRule → Bool
is_taken vid tunnels earlier = list_any (is_alike vid tunnels) earlier

-- the keys that say nothing of tunnels
abbrev pub local_keys : List (List ℕ)
local_keys =
    codes "limit" ∷ codes "ageing" ∷ codes "learn" ∷ codes "peers" ∷ codes "tags" ∷ codes "untagged" ∷ codes "tagged" ∷ []

-- the keys of a segment
abbrev pub segment_keys : Version → List (List ℕ)
segment_keys One = codes "vid" ∷ codes "vni" ∷ codes "tunnel" ∷ local_keys ++ codes "flood" ∷ []
segment_keys Two = codes "vid" ∷ codes "tunnel" ∷ local_keys
segment_keys Three = codes "vid" ∷ codes "tunnel" ∷ local_keys

-- the keys behind `vid` where each tunnel has a table of its own, in version 3 or 2
abbrev pub tables_of : Bool → Own → Limits → ℕ → Place → Meaning (TunnelRules × LocalRules)
tables_of third own limits ports at = do
  tunnels ← tunnels_of own limits.flood at
  local ← local_of third limits.entries ports at
  Ok (tunnels, local)

-- the keys behind `vid`: the tunnels with the flood list, and the rules that say nothing of them
unfoldable pub rules_of : Version → Own → Limits → ℕ → Place → Meaning (TunnelRules × LocalRules)
rules_of One own limits ports at = do
  tunnel ← tunnel_of at
  local ← local_of false limits.entries ports at
  flood ← flood_of own limits.flood tunnel.kind at
  Ok ((tunnel ∷ [], flood), local)
rules_of Two own limits ports at = tables_of false own limits ports at
rules_of Three own limits ports at = tables_of true own limits ports at

-- beside the endpoint's own addresses, the limits in force, the number of the ports, and the segments before this one
unfoldable pub segment_of : Version → Own → Limits → ℕ → List SegmentRule → Place → Meaning SegmentRule
segment_of version own limits ports earlier at = do
  known ← only at (segment_keys version)
  vid ← required at (codes "vid") (range 1 4094)
  rules ← rules_of version own limits ports at
  apart ← refuse_if (is_taken vid rules.0.0 earlier) (TwoSegments (numbered (codes "segment") (length earlier + 1)))
  Ok (with_tunnels vid rules.0.0 rules.0.1 rules.1)
