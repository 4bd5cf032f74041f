-- The tunnel that a change means. It serves proofs.
use Rattle.std.specs.Prelude.{Option, Some, None, Result, Ok, Err}
use Rattle.wire.specs.declared.ip_udp.addr.Tunnel.{Tunnel}
use Rattle.endpoint_core.specs.declared.state.fault.ChangeFault.{ChangeFault}
use Rattle.endpoint_core.specs.declared.state.fault.ChangeFault.TheVariants.{NoSegment, NoTunnel}
use Rattle.endpoint_core.specs.Settings.{SegmentSettings, kind_named}

-- the kind that is there, or the refusal of a segment that lacks it
abbrev pub or_no_tunnel : Option Tunnel → Result Tunnel ChangeFault
or_no_tunnel None = Err NoTunnel
or_no_tunnel (Some kind) = Ok kind

-- its kind, where there are the segment and the tunnel
abbrev pub tunnel_in : Option SegmentSettings → Option Tunnel → Result Tunnel ChangeFault
tunnel_in None tunnel = Err NoSegment
tunnel_in (Some s) tunnel = or_no_tunnel (kind_named s.tunnels tunnel)
