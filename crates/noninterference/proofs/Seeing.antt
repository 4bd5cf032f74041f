-- What a segment sees of the settings and of the state.
use Rattle.std.specs.Prelude.{ℕ, Bool, List, Option}
use Rattle.std.specs.Option.{option_map, option_and_then}
use Rattle.overlay.specs.Ports.{Members, members_at, has_segment}
use Rattle.overlay.specs.declared.ports.port.PortRule.{PortRule}
use Rattle.overlay.specs.Overlay.{segment_at as overlay_segment}
use Rattle.overlay.specs.declared.underlay.segment.Segment.{Segment}
use Rattle.overlay.specs.declared.underlay.settings.Underlay.{Underlay}
use Rattle.overlay.specs.declared.underlay.tunnels.SegmentTunnel.{SegmentTunnel}
use Rattle.filter_db.specs.Table.{Table}
use Rattle.endpoint_core.specs.Settings.{Settings, BridgeSettings, SegmentSettings, joined}
use Rattle.endpoint_core.specs.State.{State as Bridges}
use Rattle.noninterference.proofs.Finding.{tunnels_at}

pub record Seen : Type 0 where
  pub underlay : Underlay
  pub ports : List PortRule
  -- the most entries that all tables together may be given
  pub pool : ℕ
  -- of each segment, whether it has members, its tunnels and its limit
  pub stands : ℕ → Bool
  pub tunnels : ℕ → Option (List SegmentTunnel)
  pub limits : ℕ → Option ℕ
  -- the three parts of its own settings
  pub members : Option Members
  pub segment : Option Segment
  pub bridge : Option BridgeSettings

-- the limit of the bridge of a segment
abbrev pub limit_of : Option BridgeSettings → Option ℕ
limit_of bridge = option_map (λ b. b.limit) bridge

abbrev pub seen : ℕ → Settings → Seen
seen vid S = record {
  underlay = S.overlay.underlay;
  ports = S.ports.ports;
  pool = S.pool;
  stands = λ w. has_segment S.ports w;
  tunnels = λ w. tunnels_at S.overlay w;
  limits = λ w. limit_of (S.bridges w);
  members = members_at S.ports vid;
  segment = overlay_segment S.overlay vid;
  bridge = S.bridges vid;
}

-- the parts of a segment's settings put together, where each is there
abbrev pub own_by : Option BridgeSettings → Option Segment → Option Members → Option SegmentSettings
own_by bridge segment members = option_and_then (λ b. option_and_then (λ g. option_map (λ m. joined b g m) members) segment) bridge

-- its own settings
abbrev pub own_of : Seen → Option SegmentSettings
own_of x = own_by x.bridge x.segment x.members

pub record View : Type 0 where
  pub settings : Seen
  -- its own table
  pub table : Table

abbrev pub viewed : ℕ → Bridges → View
viewed vid B = record { settings = seen vid B.settings; table = B.tables vid }
