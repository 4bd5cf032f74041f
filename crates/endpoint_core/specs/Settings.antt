-- The settings in force of an endpoint: those that it was opened with, as changed since. It states no standard.
--     Settings      all of them
--     tables_asked      the tables that they ask for
--     SegmentSettings, segment_at      those of one segment
--     kind_named      the tunnel that a change means
use Rattle.std.specs.Prelude.{ℕ, Bool, List, Option, Some, None, slice_get}
use Rattle.std.specs.Option.{option_map, option_and_then}
use Rattle.std.specs.FinMap.{empty}
use Rattle.wire.specs.declared.ip_udp.addr.Tunnel.{Tunnel}
use Rattle.filter_db.specs.Segment.{Segments}
use Rattle.overlay.specs.Ports.{Ports, Members, members_at}
use Rattle.overlay.specs.UnderlayFlood.{Entries}
use Rattle.overlay.specs.Tunnels.{of_kind}
use Rattle.overlay.specs.Overlay as overlay
use Rattle.overlay.specs.Overlay.{Overlay}
use Rattle.overlay.specs.declared.underlay.segment.PeerRule.{PeerRule}
use Rattle.overlay.specs.declared.underlay.segment.TagRule.{TagRule}
use Rattle.overlay.specs.declared.underlay.segment.Segment.{Segment}
use Rattle.overlay.specs.declared.underlay.tunnels.SegmentTunnel.{SegmentTunnel}

-- the rules by which the bridge of a segment learns
pub record BridgeSettings : Type 0 where
  -- the most entries of its table
  pub limit : ℕ
  -- for how many seconds a learned entry is live
  pub ageing : ℕ
  pub learning : Bool

-- the settings in force
pub record Settings : Type 0 where
  -- the local ports, and the members of each segment
  pub ports : Ports
  -- the underlay, and the tunnels, flood list, peers rule and tags rule of each segment
  pub overlay : Overlay
  -- for each VID the bridge of its segment, where it has one
  pub bridges : ℕ → Option BridgeSettings
  -- the most entries that all tables together may be given
  pub pool : ℕ

-- the tables that they ask for, without entries
abbrev pub tables_asked : Settings → Segments
tables_asked S = λ vid. option_map (λ bridge. record { limit = bridge.limit; ageing = bridge.ageing; entries = empty }) (S.bridges vid)

-- the settings of one segment
pub record SegmentSettings : Type 0 where
  -- one, or two of different kinds; the first is meant where a change names none
  pub tunnels : List SegmentTunnel
  -- the remote endpoints that it floods to
  pub flood : Entries
  -- who may send to it
  pub peers : PeerRule
  -- what becomes of inner tags
  pub tags : TagRule
  -- how its frames leave, by the numbers of its member ports
  pub members : Members
  pub limit : ℕ
  pub ageing : ℕ
  pub learning : Bool

-- put together
abbrev pub joined : BridgeSettings → Segment → Members → SegmentSettings
joined bridge segment members = record {
  tunnels = segment.tunnels;
  flood = segment.flood;
  peers = segment.peers;
  tags = segment.tags;
  members = members;
  limit = bridge.limit;
  ageing = bridge.ageing;
  learning = bridge.learning;
}

-- the settings of the segment of a VID, where it has one
abbrev pub segment_at : Settings → ℕ → Option SegmentSettings
segment_at S vid =
    option_and_then (λ bridge. option_and_then (λ segment.
    option_map (λ members. joined bridge segment members) (members_at S.ports vid))
    (overlay.segment_at S.overlay vid)) (S.bridges vid)

-- the kind of the tunnel that a change means: the named one, where the segment has it; the first one's, where none is
-- named
abbrev pub kind_named : List SegmentTunnel → Option Tunnel → Option Tunnel
kind_named tunnels None = option_map (λ t. t.kind) (slice_get tunnels 0)
kind_named tunnels (Some kind) = option_map (λ t. t.kind) (of_kind kind tunnels)
