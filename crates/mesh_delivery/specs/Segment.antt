-- The bridge of a segment among all others, and what an endpoint answers by it. It states no standard.
--     bridge_by, bridge_of      the bridge of a segment, in settings or in a state
--     bridge_after      the same behind events, made by the segment's own alone
--     IsBrought      what a frame or packet brings to the bridge of a segment
--     step_in      the step of a bridge, where there is one
--     decision_of      what that step decides, octet for octet
use Rattle.std.specs.Prelude.{◌≡◌, ℕ, ◌-◌, ◌==◌, Bool, true, false, List, [], map, length, Option, Some, None, Result, Ok, Err}
use Rattle.std.specs.Option.{option_map, option_map_or}
use Rattle.std.specs.FinMap.{get}
use Rattle.wire.specs.Frame.{Frame}
use Rattle.wire.specs.declared.ether.reason.Reason.{Reason}
use Rattle.wire.specs.declared.ether.reason.Reason.TheVariants.{NoSegment}
use Rattle.overlay.specs.Flood.{own_of}
use Rattle.filter_db.specs.declared.place.Place.{Place}
use Rattle.filter_db.specs.declared.place.Place.TheVariants.{Local, Remote}
use Rattle.filter_db.specs.Table.{Table}
use Rattle.overlay.specs.Ports.{Ports}
use Rattle.overlay.specs.declared.underlay.segment.TagRule.TheVariants.{Drop, Pass, Never}
use Rattle.overlay.specs.declared.underlay.settings.Underlay.{Underlay}
use Rattle.overlay.specs.UnderlaySettings.{own}
use Rattle.overlay.specs.Tunnels.{of_kind}
use Rattle.encapsulate.specs.Emission.{local_text}
use Rattle.encapsulate.specs.Remote.{packet_from}
use Rattle.endpoint_core.specs.Settings.{Settings, SegmentSettings, segment_at}
use Rattle.endpoint_core.specs.State.{State as Bridges}
use Rattle.endpoint_core.specs.StateStep.{config_of}
use Rattle.endpoint_core.specs.Arrival.{Arrival}
use Rattle.endpoint_core.specs.Arrival.{came_at, came_by}
use Rattle.endpoint_core.specs.Decision.{Sent, Decision, dropped_in, forwarded}
use Rattle.endpoint_core.specs.Event.{Input, FrameAt, Packet, Asks, Event}
use Rattle.endpoint_core.specs.Run.{settings_after, entries_of}
use Rattle.mesh_delivery.specs.Bridge.{Bridge, Outlet, step}

-- ---- the bridge of a segment

-- of these settings of the segment, of all other settings no more than which ports are up and the MTU. The outer headers have
-- 36 octets over IPv4 and 56 over IPv6
abbrev pub bridge_with : Ports → Underlay → Table → SegmentSettings → Bridge
bridge_with ports underlay table s = record {
  config = config_of ports s;
  limit = s.limit;
  ageing = s.ageing;
  largest4 = underlay.mtu - 36;
  largest6 = underlay.mtu - 56;
  drops_tags = elim s.tags [ Drop ↦ true | Pass ↦ false | Never ↦ true ];
  table = table;
}

-- the bridge of the segment of a VID with this table, where these settings have the segment
abbrev pub bridge_by : ℕ → Settings → Table → Option Bridge
bridge_by vid S table = option_map (bridge_with S.ports S.overlay.underlay table) (segment_at S vid)

-- the same in a state of an endpoint
abbrev pub bridge_of : ℕ → Bridges → Option Bridge
bridge_of vid B = bridge_by vid B.settings (B.tables vid)

-- the same behind events that began with settings S and empty tables: by the settings then in force, and by the segment's own
-- events
abbrev pub bridge_after : ℕ → Settings → List Event → Option Bridge
bridge_after vid S es = bridge_by vid (settings_after S es) (entries_of vid S es)

-- ---- a frame at it

-- what a frame or packet brings to the bridge of a segment, while these settings are in force
abbrev pub IsBrought : Settings → Input → Arrival → Type 0
IsBrought S (FrameAt port original b) x = came_at S.ports S.overlay port original b ≡ Ok x
IsBrought S (Packet original b) x = came_by S.overlay original b ≡ Ok x
IsBrought S (Asks c) x = ⊥

-- what the bridge does with a frame, where there is one; where there is none, no frame is forwarded
abbrev pub step_in : Option Bridge → ℕ → Place → Frame → Result (List Outlet) Reason × Option Bridge
step_in None t from f = (Err NoSegment, None)
step_in (Some b) t from f = let done = step b t from f in (done.0, Some done.1)

-- ---- what an endpoint answers

-- the octets of a frame at a place, by these settings of its segment: at a member port with a tag or without (802.1Q, 8.8), to
-- a remote endpoint in the outer headers of the tunnel of a kind; nothing at a port that is no member, or without that tunnel
abbrev pub octets_in : Underlay → SegmentSettings → ℕ → Frame → Place → List ℕ
octets_in U s vid f (Local port) = option_map_or (λ egress. local_text vid egress f) (get s.members port) []
octets_in U s vid f (Remote kind a) =
    elim (of_kind kind s.tunnels) [
      | Some tunnel ↦ option_map_or (λ src. packet_from U kind tunnel.vni src a f) (own_of (own U) a) []
      | None ↦ []
    ]

-- the same by the settings of a segment, where it stands
abbrev pub octets_at : Underlay → Option SegmentSettings → ℕ → Frame → Place → List ℕ
octets_at U segment vid f place = option_map_or (λ s. octets_in U s vid f place) segment []

-- an outlet with the octets that are sent there, or why none are
abbrev pub sent_of : Underlay → Option SegmentSettings → ℕ → Frame → Outlet → Sent
sent_of U segment vid f o = record {
  place = o.place;
  sent = elim o.unsent [ Some reason ↦ Err reason | None ↦ Ok (octets_at U segment vid f o.place) ];
}

-- the segment has two tunnels
abbrev pub is_double : Option SegmentSettings → Bool
is_double segment = option_map_or (λ s. length s.tunnels == 2) segment false

-- what is decided of a frame: its outlets, each with what is sent there by the settings of its segment, or why there are none
abbrev pub decision_of : Underlay → Option SegmentSettings → Arrival → Result (List Outlet) Reason → Decision
decision_of U segment x (Ok outlets) = forwarded x.vid (is_double segment) (map (sent_of U segment x.vid x.frame) outlets)
decision_of U segment x (Err reason) = dropped_in (Some x.vid) reason
