-- How a frame leaves at each of its outlets. It states no standard.
use Rattle.std.specs.Prelude.{ℕ, ◌+◌, if◌then◌else◌, List, length, Option, Some, None}
use Rattle.std.specs.List.{flat_map}
use Rattle.std.specs.Option.{option_map, option_to_list}
use Rattle.wire.specs.Frame.{Frame, size}
use Rattle.wire.specs.declared.ip_udp.addr.Addr.{Addr}
use Rattle.wire.specs.declared.ip_udp.addr.Addr.TheVariants.{V4, V6}
use Rattle.filter_db.specs.declared.place.Place.{Place}
use Rattle.filter_db.specs.declared.place.Place.TheVariants.{Local, Remote}
use Rattle.overlay.specs.Ports.{Ports, is_port, egress_at}
use Rattle.overlay.specs.Overlay.{Overlay, tunnel_at}
use Rattle.overlay.specs.UnderlaySettings.{hop_to}
use Rattle.overlay.specs.declared.underlay.tunnels.SegmentTunnel.{SegmentTunnel}
use Rattle.encapsulate.specs.Remote.{admits, headers}
use Rattle.endpoint_core.specs.Settings.{Settings}
use Rattle.endpoint_core.specs.Decision.{Sent}
use Rattle.event_story.specs.declared.fact.Fact.{Fact}
use Rattle.event_story.specs.declared.fact.Fact.TheVariants as facts

-- how a frame leaves in a tunnel of its segment
abbrev pub tunnel_fact : Overlay → ℕ → Frame → Addr → SegmentTunnel → Fact
tunnel_fact S vid f addr tunnel =
    facts.InTunnel tunnel.kind addr tunnel.vni (hop_to S.underlay addr) (size f + headers addr) S.underlay.mtu (admits S vid addr f)

-- how frames of a segment leave at a local port
abbrev pub port_fact : Ports → ℕ → ℕ → Option Fact
port_fact s vid port = if is_port (length s.ports) port then Some (facts.AtPort port (egress_at s vid port)) else None

-- how a frame of a segment leaves at a place; nothing where it can't leave there
abbrev pub outlet_fact : Settings → ℕ → Frame → Place → Option Fact
outlet_fact S vid f (Local port) = port_fact S.ports vid port
outlet_fact S vid f (Remote kind addr) = option_map (tunnel_fact S.overlay vid f addr) (tunnel_at S.overlay vid kind)

-- at each outlet
abbrev pub outlet_facts : Settings → ℕ → Frame → List Sent → List Fact
outlet_facts S vid f outcomes = flat_map (λ (o : Sent). option_to_list (outlet_fact S vid f o.place)) outcomes
