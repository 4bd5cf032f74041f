-- What the bridge of a segment knows of the addresses of a frame, and what that makes of it (IEEE 802.1Q, 8.6 to 8.8).
use Rattle.std.specs.Prelude.{ℕ, ◌+◌, Bool, true, false, not, ◌||◌, nat_le, nat_lt, is_none}
use Rattle.std.specs.Prelude.{if◌then◌else◌, List, [], ◌∷◌, ◌++◌, length, map, Option, Some, None}
use Rattle.std.specs.List.{flat_map, range_with_len}
use Rattle.std.specs.Option.{option_to_list, option_map_or}
use Rattle.std.specs.FinMap.{get, len}
use Rattle.wire.specs.Address.{is_group}
use Rattle.wire.specs.declared.ether.reason.Reason.{Reason}
use Rattle.wire.specs.declared.ether.reason.Reason.TheVariants.{SamePlace, Horizon, Unreachable, NoOutlet}
use Rattle.filter_db.specs.declared.entry.Entry.{Entry}
use Rattle.filter_db.specs.declared.place.Place.{Place}
use Rattle.filter_db.specs.declared.place.Place.TheVariants.{Local, Remote}
use Rattle.filter_db.specs.Place.{same_place}
use Rattle.filter_db.specs.Table.{Table, is_fixed, nanoseconds}
use Rattle.overlay.specs.Ports.{Ports}
use Rattle.tunnel_learning.specs.Bridge.{Config, in_one_group, is_up_at, place_of}
use Rattle.endpoint_core.specs.Settings.{SegmentSettings, segment_at}
use Rattle.endpoint_core.specs.State.{State}
use Rattle.endpoint_core.specs.StateStep.{after_frame, config_of}
use Rattle.endpoint_core.specs.Arrival.{Arrival}
use Rattle.event_story.specs.Neighbours.{folded}
use Rattle.event_story.specs.declared.fact.Fact.{Fact}
use Rattle.event_story.specs.declared.fact.Fact.TheVariants as facts

-- ---- the source

-- what becomes of a source that came from a place, by what stood for it in a table with so many entries
abbrev pub learned_fact : ℕ → ℕ → Place → Option Entry → Fact
learned_fact limit entries from None = if nat_lt entries limit then facts.Learned from None else facts.Full limit
learned_fact limit entries from (Some e) = if is_fixed e then facts.Fixed e else facts.Learned from (Some e)

-- the same, where the segment learns
abbrev pub source_fact : Bool → ℕ → ℕ → Place → Option Entry → Fact
source_fact learning limit entries from stood = if learning then learned_fact limit entries from stood else facts.NotLearning

-- ---- the destination, once the source is learned

-- an entry that stood before is dead from the moment on that is its ageing behind that of its last sighting
abbrev pub dead_fact : ℕ → ℕ → Entry → Option ℕ → Fact
dead_fact t span e None = facts.Known None
dead_fact t span e (Some last) = if nat_le (last + span) t then facts.Dead e (last + span) else facts.Known None

-- what stands for it, or stood when the last event was done with
abbrev pub stood_fact : ℕ → ℕ → Option Entry → Option Entry → Fact
stood_fact t span before (Some e) = facts.Known (Some e)
stood_fact t span (Some e) None = dead_fact t span e e.last
stood_fact t span None None = facts.Known None

-- a group's address goes everywhere, as one for which nothing stands does
abbrev pub known_fact : Bool → Fact → Fact
known_fact group stood = if group then facts.ToGroup else stood

-- a port where no frame of the segment leaves
abbrev pub shut_fact : Config → Place → Option Fact
shut_fact c (Local port) =
    if not (is_up_at c.up port) then Some (facts.PortsDown port port)
    else if is_none (get c.members port) then Some (facts.NoMembers port port)
    else None
shut_fact c (Remote kind addr) = None

-- why a flood of a frame from a place leaves another out, if it does
abbrev pub left_out : Config → Place → Place → Option Fact
left_out c from to =
    if same_place to from then Some (facts.Same to)
    else if in_one_group c from to then Some (facts.Horizon to)
    else shut_fact c to

-- all places of a segment: the ports, rising, and the remotes of its flood list in its order
abbrev pub places_of : Config → List Place
places_of c = map Local (range_with_len 1 (length c.up)) ++ map place_of c.flood

-- why a flood leaves out those of some places that it leaves out, one by one
abbrev pub left_among : Config → Place → List Place → List Fact
left_among c from places = flat_map (λ to. option_to_list (left_out c from to)) places

-- the same of the ports
abbrev pub left_ports : Config → Place → List Fact
left_ports c from = left_among c from (map Local (range_with_len 1 (length c.up)))

-- what is told of them: of more than 16 ports, those as one that follow each other and are left out for the same cause
abbrev pub ports_told : Config → Place → List Fact
ports_told c from = if nat_lt 16 (length c.up) then folded (left_ports c from) else left_ports c from

-- what is told of all places that a flood leaves out
abbrev pub left_facts : Config → Place → List Fact
left_facts c from = ports_told c from ++ left_among c from (map place_of c.flood)

-- the same of a frame, if it is flooded: to a group, or to an address for which nothing stands
abbrev pub flooded_facts : Config → Place → Bool → Option Entry → List Fact
flooded_facts c from group stood = if group || is_none stood then left_facts c from else []

-- why a frame doesn't go to the place where its destination stands
abbrev pub place_fact : Place → Reason → Option Fact
place_fact place SamePlace = Some (facts.Same place)
place_fact place Horizon = Some (facts.Horizon place)
place_fact place Unreachable = Some (facts.Shut place)
place_fact place _ = None

-- or everywhere
abbrev pub flood_fact : Reason → Option Fact
flood_fact NoOutlet = Some facts.Nobody
flood_fact _ = None

-- by what stands for the destination
abbrev pub aim_by : Option Entry → Reason → Option Fact
aim_by None reason = flood_fact reason
aim_by (Some e) reason = place_fact e.place reason

-- why a frame goes nowhere, if it does
abbrev pub aim_fact : Bool → Option Entry → Option Reason → Option Fact
aim_fact group stood None = None
aim_fact true stood (Some reason) = flood_fact reason
aim_fact false stood (Some reason) = aim_by stood reason

-- ---- both

-- what there is to tell of a frame at the bridge, by what the bridge goes by and what stands for both addresses
abbrev pub bridge_told : Config → ℕ → ℕ → Place → Option Entry
    → Bool → Option Entry → Fact → Option Reason → List Fact
bridge_told c limit entries from source group destination stood dropped =
    source_fact c.learning limit entries from source
    ∷ known_fact group stood
    ∷ flooded_facts c from group destination ++ option_to_list (aim_fact group destination dropped)

-- the same at moment t in the state of a segment: its table as the last event left it, the one before the frame, and the one
-- behind it
abbrev pub told_in : ℕ → Ports → Table → Table → Table → Arrival → Option Reason → SegmentSettings → List Fact
told_in t ports left before behind x dropped s =
    bridge_told (config_of ports s) s.limit (len before) x.from (get before x.frame.src) (is_group x.frame.dst) (get behind x.frame.dst)
    (stood_fact t (nanoseconds s.ageing) (get left x.frame.dst) (get behind x.frame.dst)) dropped

-- what there is to tell of a frame that came to a segment at moment t, and that is dropped for this reason, if it is: in
-- the state that the last event left, and in the same at that moment
abbrev pub bridge_facts : ℕ → State → State → Arrival → Option Reason → List Fact
bridge_facts t left B x dropped =
    option_map_or (told_in t B.settings.ports (left.tables x.vid) (B.tables x.vid)
    ((after_frame t x.vid x.from x.frame B).tables x.vid) x dropped) (segment_at B.settings x.vid) []
