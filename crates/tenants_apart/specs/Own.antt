-- What of a run is one segment's own, whatever other segments have or do. It states no standard.
--     Needs, IsEnough      what a segment asks for of what all share, and that it asks for no more
--     Part, part_of      what a segment has of the settings in force, and of what all share what it needs
--     names_or_concerns, own_events      the events of a run that are the segment's own
--     asks_room, room_replies      what those changes of its own are answered that others may have left no room for
--     wants_room, lacks_room      such a change is refused because of others
--     own_rows      its own events, each with its answer
use Rattle.std.specs.Prelude.{◌≡◌, ◌⊎◌, ℕ, Bool, true, false, ◌&&◌, nat_le, min, not, is_some, if◌then◌else◌}
use Rattle.std.specs.Prelude.{List, [], ◌∷◌, ◌++◌, length, Option, Some, None, Result, Ok, Err}
use Rattle.std.specs.List.{AllByRecursion}
use Rattle.std.specs.Option.{option_map_or}
use Rattle.std.specs.FinMap.{empty}
use Rattle.wire.specs.declared.ip_udp.addr.Addr.{Addr}
use Rattle.wire.specs.declared.ether.reason.Refused.{Refused}
use Rattle.overlay.specs.Ports.{Ports, Members, is_port, port_at, members_at, egress_at}
use Rattle.overlay.specs.declared.ports.port.PortRule.{PortRule}
use Rattle.filter_db.specs.declared.place.Place.{Place}
use Rattle.filter_db.specs.declared.place.Place.TheVariants.{Local, Remote}
use Rattle.overlay.specs.Overlay.{segment_at as overlay_segment, flood_at}
use Rattle.overlay.specs.UnderlaySettings.{hop_to}
use Rattle.overlay.specs.declared.underlay.segment.Segment.{Segment}
use Rattle.overlay.specs.declared.underlay.settings.Underlay.{Underlay}
use Rattle.overlay.specs.declared.settings.change.Target.{Target}
use Rattle.overlay.specs.declared.settings.change.Target.TheVariants as target
use Rattle.overlay.specs.declared.settings.change.Change.{Change}
use Rattle.overlay.specs.declared.settings.change.Change.TheVariants.{AddFlood, Fix, SetMember, AddSegment, SetLimit}
use Rattle.endpoint_core.specs.declared.state.fault.ChangeFault.{ChangeFault}
use Rattle.endpoint_core.specs.declared.state.fault.ChangeFault.TheVariants.{SegmentThere, SegmentsFull, PoolFull}
use Rattle.endpoint_core.specs.Settings.{Settings, BridgeSettings, segment_at}
use Rattle.endpoint_core.specs.Effect.{Effect, ToLimit, ToPort, Comes, effect}
use Rattle.endpoint_core.specs.Change.{is_about, is_limit, refused}
use Rattle.endpoint_core.specs.Among.{segment_of}
use Rattle.endpoint_core.specs.Arrival.{Arrival}
use Rattle.endpoint_core.specs.Arrival.{came_at, came_by}
use Rattle.endpoint_core.specs.Event.{Input, FrameAt, Packet, Asks, Event}
use Rattle.endpoint_core.specs.Run.{settings_after_input}
use Rattle.endpoint_core.specs.Step.{State, Answer, Decided, Replied, opened, answer, after}
use Rattle.noninterference.specs.Alone.{is_segment}
use Rattle.noninterference.specs.Leaving.{Row}

-- ---- settings

-- what a segment asks for of what all share and have in different ways, of which nothing else is compared
pub record Needs : Type 0 where
  -- local ports: its members, and all that its changes name
  pub ports : ℕ → Bool
  -- the addresses to which something is sent in it
  pub remotes : Addr → Bool
  -- how many remotes its flood list has when one more is to be added
  pub lengths : ℕ → Bool
  -- the limits that its table is to have
  pub limits : ℕ → Bool

-- whatever it may ask for
abbrev pub everything : Needs
everything = record { ports = λ port. true; remotes = λ addr. true; lengths = λ n. true; limits = λ n. true }

-- of the underlay what all segments go by, each in whatever it does: own addresses, the ports of tunnels, TTL, checksums,
-- options and MTU. It is without next hops and limits
abbrev pub common : Underlay → Underlay
common U = record U {
  next_hop = [];
  hops = empty;
  limits = record { ports = 0; segments = 0; flood = 0; hops = 0; entries = 0; addresses = 0 };
}

-- of an underlay what a segment goes by: what all do, and what it needs of next hops and limits
pub record Shared : Type 0 where
  pub underlay : Underlay
  -- the MAC address to send to, for each remote that it needs
  pub hops : Addr → List ℕ
  -- whether a flood list of so many takes no more, for each number that it needs
  pub full : ℕ → Bool
  -- whether a table may have this limit, for each that it needs
  pub allowed : ℕ → Bool

abbrev pub shared_of : Needs → Underlay → Shared
shared_of needs U = record {
  underlay = common U;
  hops = λ addr. if needs.remotes addr then hop_to U addr else [];
  full = λ n. needs.lengths n && nat_le (min U.limits.flood 512) n;
  allowed = λ n. needs.limits n && is_limit U.limits.entries n;
}

-- the port of this number, where there is one
abbrev pub port_there : Ports → ℕ → Option PortRule
port_there P port = if is_port (length P.ports) port then Some (port_at P port) else None

-- of the settings in force what the segment of one VID has, and what it goes by; nothing of the pool, of other ports, next hops
-- and limits, and of any other segment
pub record Part : Type 0 where
  pub shared : Shared
  -- each port that it needs, where there is one, with its PVID, what it accepts, and whether it is up
  pub ports : ℕ → Option PortRule
  -- how the segment's frames leave, by the numbers of its member ports
  pub members : Option Members
  -- its tunnels with their VNIs, its flood list, who may send to it, what becomes of inner tags
  pub tunnels : Option Segment
  -- its limit and its ageing, and whether it learns
  pub bridge : Option BridgeSettings

abbrev pub part_of : ℕ → Needs → Settings → Part
part_of vid needs S = record {
  shared = shared_of needs S.overlay.underlay;
  ports = λ port. if needs.ports port then port_there S.ports port else None;
  members = members_at S.ports vid;
  tunnels = overlay_segment S.overlay vid;
  bridge = S.bridges vid;
}

-- ---- events

-- the segment that a frame or packet comes to, or is refused in
abbrev pub segment_met : Result Arrival Refused → Option ℕ
segment_met r = segment_of r

-- an effect isn't that on a port which the segment doesn't need
abbrev pub is_needed : Needs → Effect → Bool
is_needed needs (ToPort port up) = needs.ports port
is_needed needs _ = true

-- a change names the segment, or is of a port that it needs
abbrev pub is_own_change : ℕ → Needs → Change → Bool
is_own_change vid needs c = is_about vid c && is_needed needs (effect c)

-- while these settings are in force, an event is the segment's own: a frame or packet that comes to it or is refused in
-- it, a change that names it, or one of a port that it needs
abbrev pub names_or_concerns : ℕ → Needs → Settings → Input → Bool
names_or_concerns vid needs S (FrameAt port original b) =
    is_segment vid (segment_met (came_at S.ports S.overlay port original b))
names_or_concerns vid needs S (Packet original b) = is_segment vid (segment_met (came_by S.overlay original b))
names_or_concerns vid needs S (Asks c) = is_own_change vid needs c

-- the segment's own events, of those that come from settings S on. Only changes change the settings in force
abbrev pub own_events : ℕ → Needs → Settings → List Event → List Event
own_events vid needs S [] = []
own_events vid needs S (e ∷ es) =
    let rest = own_events vid needs (settings_after_input S e.input) es in
    if names_or_concerns vid needs S e.input then e ∷ rest else rest

-- ---- changes that others may have left no room for

-- a segment comes, with VNIs and a limit, or gets another limit
abbrev pub takes_room : Effect → Bool
takes_room (ToLimit vid limit) = true
takes_room (Comes new) = true
takes_room _ = false

-- the segment itself comes or gets another limit
abbrev pub asks_room : ℕ → Change → Bool
asks_room vid c = takes_room (effect c) && is_about vid c

-- what one event adds to the answers below
abbrev pub room_reply : ℕ → Settings → Input → List (Option ChangeFault)
room_reply vid S (FrameAt port original b) = []
room_reply vid S (Packet original b) = []
room_reply vid S (Asks c) = if asks_room vid c then refused S c ∷ [] else []

-- to each of these changes of the segment why it is refused, or None where it is made. No table refuses one
abbrev pub room_replies : ℕ → Settings → List Event → List (Option ChangeFault)
room_replies vid S [] = []
room_replies vid S (e ∷ es) = room_reply vid S e.input ++ room_replies vid (settings_after_input S e.input) es

-- the segment is there, a VNI is another's, there are as many segments as there can be, or the pool is full
abbrev pub is_want : ChangeFault → Bool
is_want SegmentThere = true
is_want SegmentsFull = true
is_want PoolFull = true
is_want why = false

-- the change is refused for that; it is neither made nor refused for another reason
abbrev pub wants_room : Option ChangeFault → Bool
wants_room reply = option_map_or is_want reply false

-- a segment comes that is there already
abbrev pub is_there : Settings → Change → Bool
is_there S (AddSegment new) = is_some (segment_at S new.vid)
is_there S c = false

-- a change of the segment's own is refused so because of others, and not because the segment is there itself
abbrev pub lacks_room : ℕ → Settings → Input → Bool
lacks_room vid S (FrameAt port original b) = false
lacks_room vid S (Packet original b) = false
lacks_room vid S (Asks c) = asks_room vid c && (wants_room (refused S c) && not (is_there S c))

-- none is, of those among the events that come from settings S on
abbrev pub HasRoom : ℕ → Settings → List Event → Type 0
HasRoom vid S [] = Unit {0}
HasRoom vid S (e ∷ es) = (lacks_room vid S e.input ≡ false) × HasRoom vid (settings_after_input S e.input) es

-- ---- answers

-- the segment's own events, of those that come to an endpoint in state s, each with what it is answered: a decision
-- with its emissions, octet for octet, or what became of the change
abbrev pub own_rows : ℕ → Needs → State → List Event → List Row
own_rows vid needs s [] = []
own_rows vid needs s (e ∷ es) =
    let rest = own_rows vid needs (after s e) es in
    if names_or_concerns vid needs s.bridges.settings e.input then record { event = e; reply = answer s e } ∷ rest else rest

-- ---- what it needs

-- a fixed entry isn't to stand at another port
abbrev pub is_at_needed : Needs → Target → Bool
is_at_needed needs (target.Local port) = needs.ports port
is_at_needed needs (target.Remote addr tunnel) = true

-- a change asks for no more, where settings S are in force
abbrev pub asks_within : Needs → Settings → Change → Bool
asks_within needs S (AddFlood vid addr tunnel) = needs.lengths (length (flood_at S.overlay vid))
asks_within needs S (Fix vid mac target) = is_at_needed needs target
asks_within needs S (SetMember vid port egress) = needs.ports port
asks_within needs S (AddSegment new) = needs.limits new.limit
asks_within needs S (SetLimit vid limit) = needs.limits limit
asks_within needs S c = true

-- nor does any event that is a change
abbrev pub is_within : Needs → Settings → Input → Bool
is_within needs S (FrameAt port original b) = true
is_within needs S (Packet original b) = true
is_within needs S (Asks c) = asks_within needs S c

-- so it is with the segment's own events, of those that come from settings S on
abbrev pub AreWithin : ℕ → Needs → Settings → List Event → Type 0
AreWithin vid needs S [] = Unit {0}
AreWithin vid needs S (e ∷ es) =
    (names_or_concerns vid needs S e.input ≡ true → is_within needs S e.input ≡ true)
    × AreWithin vid needs (settings_after_input S e.input) es

-- something may be sent there
abbrev pub is_reached : Needs → Place → Bool
is_reached needs (Local port) = true
is_reached needs (Remote kind addr) = needs.remotes addr

-- all that is sent by an answer is sent there
abbrev pub IsReached : Needs → Answer → Type 0
IsReached needs (Decided decision) = AllByRecursion (λ o. is_reached needs o.place ≡ true) decision.outcomes
IsReached needs (Replied fault) = Unit {0}

-- ---- the remotes that it needs, by what comes in

-- where a fixed entry is to stand
abbrev pub is_to_needed : Needs → Target → Bool
is_to_needed needs (target.Local port) = true
is_to_needed needs (target.Remote addr tunnel) = needs.remotes addr

-- the remotes that a change names
abbrev pub names_needed : Needs → Change → Bool
names_needed needs (AddFlood vid addr tunnel) = needs.remotes addr
names_needed needs (Fix vid mac place) = is_to_needed needs place
names_needed needs c = true

-- the sender of a packet
abbrev pub comes_needed : Needs → Result Arrival Refused → Bool
comes_needed needs (Ok x) = is_reached needs x.from
comes_needed needs (Err refused) = true

abbrev pub brings_needed : Needs → Settings → Input → Bool
brings_needed needs S (FrameAt port original b) = true
brings_needed needs S (Packet original b) = comes_needed needs (came_by S.overlay original b)
brings_needed needs S (Asks c) = names_needed needs c

-- so it is with all that the segment's own events bring, of those that come from settings S on
abbrev pub AreBrought : ℕ → Needs → Settings → List Event → Type 0
AreBrought vid needs S [] = Unit {0}
AreBrought vid needs S (e ∷ es) =
    (names_or_concerns vid needs S e.input ≡ true → brings_needed needs S e.input ≡ true)
    × AreBrought vid needs (settings_after_input S e.input) es

-- ---- all that it needs

-- the member ports of the segment are among those that it needs
abbrev pub AreMembers : ℕ → Needs → Settings → Type 0
AreMembers vid needs S = (port : ℕ) → needs.ports port ≡ false → egress_at S.ports vid port ≡ None

-- a segment needs no more than this, of the events that come to an endpoint with these settings: its members, what its own
-- changes ask for, and where what leaves in it is sent
pub record IsEnough (vid : ℕ) (needs : Needs) (S : Settings) (es : List Event) : Type 0 where
  pub members : AreMembers vid needs S
  pub changes : AreWithin vid needs S es
  pub remotes : AllByRecursion (λ row. IsReached needs row.reply) (own_rows vid needs (opened S) es)

-- ---- fronts

-- a list goes on with others, or with none
abbrev pub IsFrontOf : {A : Type 0} → List A → List A → Type 0
IsFrontOf {A} front whole = (others : List A) × (front ++ others ≡ whole)

-- of two lists one is a front of the other
abbrev pub IsOneFront : {A : Type 0} → List A → List A → Type 0
IsOneFront xs ys = IsFrontOf xs ys ⊎ IsFrontOf ys xs
