-- A learning bridge (IEEE 802.1Q, 8.6 to 8.8) for one segment. Its ports are places: local ports, and the remote
-- endpoints of tunnels (RFC 7348, 4.1). It knows frames and places, and no tunnel header.
--     Config      the segment's configuration
--     learned      the learning process (802.1Q, 8.7)
--     outlets      the forwarding process (802.1Q, 8.6), with split horizon among the remotes of one group
use Rattle.std.specs.Prelude.{ℕ, zero, suc, Bool, false, not, ◌&&◌, ◌==◌, if◌then◌else◌, List, [], ◌∷◌, ◌++◌, length}
use Rattle.std.specs.Prelude.{map, slice_index, slice_index_or, is_some, Option, Some, None, Result, Ok, Err}
use Rattle.std.specs.List.{filter, range_with_len}
use Rattle.std.specs.Option.{unwrap_or}
use Rattle.std.specs.FinMap.{empty, get}
use Rattle.wire.specs.Address.{is_group}
use Rattle.wire.specs.Frame.{Frame}
use Rattle.wire.specs.declared.ether.reason.Reason.{Reason}
use Rattle.wire.specs.declared.ether.reason.Reason.TheVariants.{SamePlace, Horizon, Unreachable, NoOutlet}
use Rattle.wire.specs.declared.ip_udp.addr.Tunnel.{Tunnel}
use Rattle.wire.specs.declared.ip_udp.addr.Tunnel.TheVariants.{Vxlan, Geneve}
pub use Rattle.overlay.specs.declared.flood.remote.Remote.{Remote as Target}
use Rattle.overlay.specs.Ports.{Members, members_at}
use Rattle.filter_db.specs.declared.place.Place.{Place}
use Rattle.filter_db.specs.declared.place.Place.TheVariants.{Local, Remote}
use Rattle.filter_db.specs.Place.{same_place}
use Rattle.filter_db.specs.Table.{Table, stands}
use Rattle.filter_db.specs.Segment.{Segments, adjusted, aged_all, learn_in}
use Rattle.tunnel_learning.specs.declared.bridge.Bridge.{Bridge}

-- what the bridge of a segment goes by
pub record Config : Type 0 where
  -- whether port 1, port 2 and so on are up
  pub up : List Bool
  -- how the segment's frames leave, by the numbers of its member ports (802.1Q, 8.8.10)
  pub members : Members
  pub learning : Bool
  -- the remotes that it floods to, in order
  pub flood : List Target
  -- the horizon groups of its VXLAN and of its Geneve tunnel
  pub groups : ℕ × ℕ

-- the configuration that a value tells; a segment without members has none
abbrev pub config_of : Bridge → Config
config_of b = record {
  up = map (λ port. port.up) b.ports.now.ports;
  members = unwrap_or (members_at b.ports.now b.vid) empty;
  learning = b.learning;
  flood = b.flood.now;
  groups = (slice_index b.groups 0, slice_index b.groups 1);
}

-- ---- places

-- a port of this number is there, and up
abbrev pub is_up_at : List Bool → ℕ → Bool
is_up_at up zero = false
is_up_at up (suc k) = slice_index_or up k false

-- frames of the segment may leave by this local port
abbrev pub serves : Config → ℕ → Bool
serves c port = is_up_at c.up port && is_some (get c.members port)

-- the horizon group of the segment's tunnel of a kind
abbrev pub group_of : Config → Tunnel → ℕ
group_of c Vxlan = c.groups.0
group_of c Geneve = c.groups.1

-- both places are remotes, and of one horizon group
abbrev pub in_one_group : Config → Place → Place → Bool
in_one_group c (Remote k a) (Remote l b) = group_of c k == group_of c l
in_one_group c (Remote k a) (Local q) = false
in_one_group c (Local p) to = false

-- a local place where no frame of the segment leaves
abbrev pub is_shut : Config → Place → Bool
is_shut c (Local port) = not (serves c port)
is_shut c (Remote k a) = false

-- ---- learning

-- the tables after a frame came from a place at moment t
abbrev pub learned : Config → ℕ → ℕ → Place → Frame → Segments → Segments
learned c vid t from f segments = if c.learning then adjusted vid (learn_in t from f.src) (aged_all t segments) else segments

-- ---- forwarding

-- to the place where the destination stands
abbrev pub to_place : Config → Place → Place → Result (List Place) Reason
to_place c from to =
    if same_place to from then Err SamePlace
    else if in_one_group c from to then Err Horizon
    else if is_shut c to then Err Unreachable
    else Ok (to ∷ [])

-- a flood of a frame from a place goes to a local place where frames may leave, unless it came from there
abbrev pub is_local_outlet : Config → Place → Place → Bool
is_local_outlet c from to = not (is_shut c to) && not (same_place to from)

-- the up member ports but the one that the frame came from, rising
abbrev pub local_places : Config → Place → List Place
local_places c from = filter (is_local_outlet c from) (map Local (range_with_len 1 (length c.up)))

-- and to a remote, unless that is of the horizon group that the frame came from
abbrev pub is_remote_outlet : Config → Place → Place → Bool
is_remote_outlet c from to = not (in_one_group c from to)

-- the place of a remote that is flooded to
abbrev pub place_of : Target → Place
place_of target = Remote target.tunnel target.addr

-- the remotes of the flood list but those of the horizon group that the frame came from, in its order
abbrev pub remote_places : Config → Place → List Place
remote_places c from = filter (is_remote_outlet c from) (map place_of c.flood)

-- these places, or NoOutlet where there are none
abbrev pub or_no_outlet : List Place → Result (List Place) Reason
or_no_outlet [] = Err NoOutlet
or_no_outlet (to ∷ places) = Ok (to ∷ places)

-- everywhere else: a flood
abbrev pub everywhere : Config → Place → Result (List Place) Reason
everywhere c from = or_no_outlet (local_places c from ++ remote_places c from)

-- to where the destination stands, or everywhere else where that isn't known
abbrev pub toward : Config → Place → Option Place → Result (List Place) Reason
toward c from None = everywhere c from
toward c from (Some to) = to_place c from to

-- where a frame from a place goes, by what is live of the table after its source was learned; or why it goes nowhere
abbrev pub outlets : Config → Place → Frame → Table → Result (List Place) Reason
outlets c from f m = toward c from (if is_group f.dst then None else stands f.dst m)
