-- A frame at the bridge of a segment. It states no standard.
--     config_of      the configuration of the bridge, by the settings in force
--     after_frame, verdict      what it learns, and where the frame goes
--     can_leave      the places where it can go
use Rattle.std.specs.Prelude.{ℕ, ◌==◌, Bool, ◌&&◌, if◌then◌else◌, List, length, map, is_some, Option, Some, None, Result, Err}
use Rattle.std.specs.Option.{option_map_or}
use Rattle.wire.specs.Frame.{Frame}
use Rattle.wire.specs.declared.ether.reason.Reason.{Reason}
use Rattle.wire.specs.declared.ether.reason.Reason.TheVariants.{NoSegment}
use Rattle.wire.specs.declared.ip_udp.addr.Tunnel.{Tunnel}
use Rattle.wire.specs.declared.ip_udp.addr.Tunnel.TheVariants.{Vxlan, Geneve}
use Rattle.filter_db.specs.declared.place.Place.{Place}
use Rattle.filter_db.specs.declared.place.Place.TheVariants.{Local, Remote}
use Rattle.filter_db.specs.Table.{Table, learn}
use Rattle.overlay.specs.Ports.{Ports, is_port, egress_at}
use Rattle.overlay.specs.Tunnels.{of_kind}
use Rattle.overlay.specs.declared.underlay.tunnels.SegmentTunnel.{SegmentTunnel}
use Rattle.tunnel_learning.specs.Bridge.{Config, outlets}
use Rattle.endpoint_core.specs.Settings.{Settings, SegmentSettings, segment_at}
use Rattle.endpoint_core.specs.Sound.{reaches}
use Rattle.endpoint_core.specs.State.{State}

-- the horizon group of the tunnel of a kind, 0 where there is none
abbrev pub group_in : Tunnel → List SegmentTunnel → ℕ
group_in kind tunnels = option_map_or (λ t. t.group) (of_kind kind tunnels) 0

-- the configuration of the bridge of a segment among these ports
abbrev pub config_of : Ports → SegmentSettings → Config
config_of ports s = record {
  up = map (λ port. port.up) ports.ports;
  members = s.members;
  learning = s.learning;
  flood = s.flood;
  groups = (group_in Vxlan s.tunnels, group_in Geneve s.tunnels);
}

-- the table of a segment after a frame came from a place at moment t, where the segment learns
abbrev pub table_learned : ℕ → Place → Frame → Option SegmentSettings → Table → Table
table_learned t from f None m = m
table_learned t from f (Some s) m = if s.learning then learn s.limit t from f.src m else m

-- the state after it: no other segment learns
abbrev pub after_frame : ℕ → ℕ → Place → Frame → State → State
after_frame t vid from f S = record S
    { tables = λ w. if w == vid then table_learned t from f (segment_at S.settings w) (S.tables w) else S.tables w }

-- a place where a frame of the segment can leave: a port that is there and a member, or a remote endpoint that it can
-- send to
abbrev pub can_leave : Settings → ℕ → Place → Bool
can_leave S vid (Local port) = is_port (length S.ports.ports) port && is_some (egress_at S.ports vid port)
can_leave S vid (Remote kind addr) = reaches S.overlay vid kind addr

-- where it goes from there, or why it goes nowhere
abbrev pub verdict_in : Ports → Option SegmentSettings → Place → Frame → Table → Result (List Place) Reason
verdict_in ports None from f m = Err NoSegment
verdict_in ports (Some s) from f m = outlets (config_of ports s) from f m

-- where a frame goes that came to a segment from a place at moment t, its source learned first; or why it goes nowhere
abbrev pub verdict : ℕ → ℕ → Place → Frame → State → Result (List Place) Reason
verdict t vid from f S = verdict_in S.settings.ports (segment_at S.settings vid) from f ((after_frame t vid from f S).tables vid)
