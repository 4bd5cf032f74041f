-- What the checks of a change ask of the segment that it names. It states no standard.
use Rattle.std.specs.Prelude.{ℕ, Bool, List, Option}
use Rattle.std.specs.Option.{option_map}
use Rattle.filter_db.specs.Table.{nanoseconds}
use Rattle.overlay.specs.Flood.{Entries}
use Rattle.overlay.specs.declared.underlay.tunnels.SegmentTunnel.{SegmentTunnel}
use Rattle.endpoint_core.specs.Settings.{Settings, SegmentSettings, segment_at}

-- of one that is there: its tunnels, its flood list, the limit of its table, its ageing in nanoseconds, whether it learns
pub record Segment : Type 0 where
  pub tunnels : List SegmentTunnel
  pub flood : Entries
  pub limit : ℕ
  pub span : ℕ
  pub learning : Bool

-- by its settings
abbrev pub segment_of : SegmentSettings → Segment
segment_of s = record { tunnels = s.tunnels; flood = s.flood; limit = s.limit; span = nanoseconds s.ageing; learning = s.learning }

-- the segment of a VID, where there is one
abbrev pub segment_in : Settings → ℕ → Option Segment
segment_in S vid = option_map segment_of (segment_at S vid)
