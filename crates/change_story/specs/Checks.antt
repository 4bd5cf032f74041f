-- The checks of a change, in their order, each with what it saw; and what the change finds where none refuses it.
-- It states no standard.
use Rattle.std.specs.Prelude.{◌≡◌, ℕ, ◌+◌, ◌-◌, Bool, true, not, nat_lt, nat_le, is_some, is_none, min}
use Rattle.std.specs.Prelude.{if◌then◌else◌, List, [], ◌∷◌, ◌++◌, length, map, Option, Some, None}
use Rattle.std.specs.Option.{option_map, option_map_or, option_to_list}
use Rattle.std.specs.FinMap.{get, len}
use Rattle.wire.specs.Address.{is_group as is_group_mac}
use Rattle.wire.specs.First.{first}
use Rattle.wire.specs.Addr.{is_group, is_usable}
use Rattle.wire.specs.declared.ip_udp.addr.Addr.{Addr}
use Rattle.wire.specs.declared.ip_udp.addr.Tunnel.{Tunnel}
use Rattle.filter_db.specs.Standing.{segment_count, sum_of_limits}
use Rattle.filter_db.specs.Table.{Table, has_fixed, is_full}
use Rattle.overlay.specs.Flood.{Entries, has_family, holds, is_own}
use Rattle.overlay.specs.declared.flood.own.Own.{Own}
use Rattle.overlay.specs.Ports.{is_port, is_up, egress_at}
use Rattle.overlay.specs.Overlay.{are_free}
use Rattle.overlay.specs.UnderlaySettings.{own}
use Rattle.overlay.specs.declared.underlay.tunnels.SegmentTunnel.{SegmentTunnel}
use Rattle.overlay.specs.declared.settings.change.Change.{Change}
use Rattle.overlay.specs.declared.settings.change.Change.TheVariants.{AddFlood, RemoveFlood, Fix, Unfix, SetAgeing}
use Rattle.overlay.specs.declared.settings.change.Change.TheVariants.{SetLearning, SetMember, PortUp, PortDown}
use Rattle.overlay.specs.declared.settings.change.Change.TheVariants.{Flush, AddSegment, RemoveSegment, SetLimit}
use Rattle.overlay.specs.declared.settings.change.NewSegment.{NewSegment}
use Rattle.overlay.specs.declared.settings.change.Target.{Target}
use Rattle.overlay.specs.declared.settings.change.Target.TheVariants as target
use Rattle.endpoint_core.specs.Change.{are_vnis, is_ageing, is_limit, is_too_much}
use Rattle.endpoint_core.specs.Settings.{Settings, kind_named, tables_asked}
use Rattle.endpoint_core.specs.State.{State}
use Rattle.endpoint_core.specs.declared.state.fault.ChangeFault.{ChangeFault}
use Rattle.endpoint_core.specs.declared.state.fault.ChangeFault.TheVariants.{NoSegment, NoPort, AlreadyThere, NotThere}
use Rattle.endpoint_core.specs.declared.state.fault.ChangeFault.TheVariants.{FloodFull, TableFull, GroupAddress, OutOfRange}
use Rattle.endpoint_core.specs.declared.state.fault.ChangeFault.TheVariants.{NoFamily, OwnAddress, SegmentThere, PoolFull}
use Rattle.endpoint_core.specs.declared.state.fault.ChangeFault.TheVariants.{SegmentsFull, NoTunnel}
use Rattle.change_story.specs.Segment.{Segment, segment_in}
use Rattle.change_story.specs.declared.check.Check.{Check}
use Rattle.change_story.specs.declared.seen.Seen.{Seen}
use Rattle.change_story.specs.declared.seen.Seen.TheVariants as seen

-- ---- one check: why it refuses, whether it does, and what it saw

-- one that refuses for this reason where it fails, and what it saw
abbrev pub check_of : ChangeFault → Bool → Seen → Check
check_of fault fails saw = record { fault = fault; fails = fails; saw = saw }

-- there is a segment of this VID
abbrev pub segment_check : ℕ → Bool → Check
segment_check vid there = record { fault = NoSegment; fails = not there; saw = seen.Segment vid there }

-- there is a port of this number, among so many
abbrev pub port_check : ℕ → ℕ → Check
port_check ports port = record { fault = NoPort; fails = not (is_port ports port); saw = seen.Port port ports }

-- the segment has the tunnel that is named, or has a first one where none is
abbrev pub tunnel_check : Option Tunnel → Option Tunnel → Check
tunnel_check named found = record { fault = NoTunnel; fails = is_none found; saw = seen.Tunnel named found }

-- somebody can have this address
abbrev pub usable_check : Addr → Check
usable_check addr = record { fault = OutOfRange; fails = not (is_usable addr); saw = seen.Usable (is_usable addr) }

-- it is no group's
abbrev pub group_check : Addr → Check
group_check addr = record { fault = GroupAddress; fails = is_group addr; saw = seen.AddrGroup (is_group addr) }

-- the endpoint has an own address of its family
abbrev pub family_check : Own → Addr → Check
family_check own addr = record { fault = NoFamily; fails = not (has_family own addr); saw = seen.Family (has_family own addr) }

-- it isn't the endpoint's own
abbrev pub own_check : Own → Addr → Check
own_check own addr = record { fault = OwnAddress; fails = is_own own addr; saw = seen.Own (is_own own addr) }

-- it isn't on the flood list yet
abbrev pub absent_check : Bool → Check
absent_check listed = record { fault = AlreadyThere; fails = listed; saw = seen.Listed listed }

-- it is on the flood list
abbrev pub listed_check : Bool → Check
listed_check listed = record { fault = NotThere; fails = not listed; saw = seen.Listed listed }

-- the flood list has room: it has fewer remotes than its limit says, and than 512
abbrev pub flood_check : ℕ → ℕ → Check
flood_check most remotes =
    record { fault = FloodFull; fails = nat_le (min most 512) remotes; saw = seen.FloodRoom remotes (min most 512) }

-- a MAC address is no group's
abbrev pub mac_check : List ℕ → Check
mac_check mac = record { fault = GroupAddress; fails = is_group_mac mac; saw = seen.MacGroup (is_group_mac mac) }

-- a table with this limit has room for a fixed entry of an address
abbrev pub room_check : ℕ → List ℕ → Table → Check
room_check limit mac m = record { fault = TableFull; fails = is_full limit mac m; saw = seen.Room (get m mac) (len m) limit }

-- it has a fixed entry of an address
abbrev pub fixed_check : List ℕ → Table → Check
fixed_check mac m = record { fault = NotThere; fails = not (has_fixed mac m); saw = seen.Stood (get m mac) }

-- ageings have 10 to 1,000,000 seconds
abbrev pub ageing_check : ℕ → Check
ageing_check seconds = record { fault = OutOfRange; fails = not (is_ageing seconds); saw = seen.Ageing seconds }

-- limits are 1 to the most entries of a segment
abbrev pub limit_check : ℕ → ℕ → Check
limit_check most limit = record { fault = OutOfRange; fails = not (is_limit most limit); saw = seen.Limit limit most }

-- no segment has this VID
abbrev pub vid_check : ℕ → Bool → Check
vid_check vid there = record { fault = SegmentThere; fails = there; saw = seen.Segment vid there }

-- no segment has a tunnel of the kind and VNI of one of the new one's
abbrev pub vnis_check : Bool → Check
vnis_check free = record { fault = SegmentThere; fails = not free; saw = seen.Vnis free }

-- there are fewer segments than there may be
abbrev pub count_check : ℕ → ℕ → Check
count_check segments most = record { fault = SegmentsFull; fails = not (nat_lt segments most); saw = seen.Segments segments most }

-- a limit is no more than what is left of the pool
abbrev pub pool_check : Bool → ℕ → Check
pool_check too_much room = record { fault = PoolFull; fails = too_much; saw = seen.Pool room }

-- ---- those of a change

-- what is left of the pool
abbrev pub room_in : Settings → ℕ
room_in S = S.pool - sum_of_limits (tables_asked S)

-- whether there is the segment, and then what is asked of it
abbrev pub in_segment : Settings → ℕ → (Segment → List Check) → List Check
in_segment S vid next = segment_check vid (is_some (segment_in S vid)) ∷ option_map_or next (segment_in S vid) []

-- whether there is the tunnel, and then what is asked of its kind
abbrev pub at_tunnel : List SegmentTunnel → Option Tunnel → (Tunnel → List Check) → List Check
at_tunnel tunnels named next = tunnel_check named (kind_named tunnels named) ∷ option_map_or next (kind_named tunnels named) []

-- of a remote endpoint that is to come onto a flood list of at most so many
abbrev pub flood_checks : Own → ℕ → Entries → Addr → Tunnel → List Check
flood_checks own most flood addr kind =
    usable_check addr ∷ family_check own addr ∷ own_check own addr
    ∷ absent_check (holds flood kind addr) ∷ flood_check most (length flood) ∷ []

-- of one that is to leave it
abbrev pub leaving_checks : Entries → Addr → Tunnel → List Check
leaving_checks flood addr kind = listed_check (holds flood kind addr) ∷ []

-- of one where a fixed entry is to stand
abbrev pub remote_checks : Own → Addr → Tunnel → List Check
remote_checks own addr kind = usable_check addr ∷ group_check addr ∷ family_check own addr ∷ own_check own addr ∷ []

-- of the place where a fixed entry of a segment is to stand
abbrev pub target_checks : Settings → Segment → Target → List Check
target_checks S g (target.Local port) = port_check (length S.ports.ports) port ∷ []
target_checks S g (target.Remote addr tunnel) = at_tunnel g.tunnels tunnel (remote_checks (own S.overlay.underlay) addr)

-- of a fixed entry of a segment with this table
abbrev pub fix_checks : Settings → List ℕ → Target → Table → Segment → List Check
fix_checks S mac target m g = mac_check mac ∷ (target_checks S g target ++ room_check g.limit mac m ∷ [])

-- of a new segment
abbrev pub new_checks : Settings → NewSegment → List Check
new_checks S new =
    limit_check S.overlay.underlay.limits.entries new.limit
    ∷ ageing_check new.ageing
    ∷ vid_check new.vid (is_some (segment_in S new.vid))
    ∷ vnis_check (are_free S.overlay new.tunnels)
    ∷ count_check (segment_count (tables_asked S)) S.overlay.underlay.limits.segments
    ∷ pool_check (is_too_much S new.limit) (room_in S)
    ∷ []

-- of a new limit of a segment, which gives its old one back
abbrev pub limit_checks : Settings → ℕ → Segment → List Check
limit_checks S limit g =
    limit_check S.overlay.underlay.limits.entries limit
    ∷ pool_check (nat_lt (S.pool + g.limit) (sum_of_limits (tables_asked S) + limit)) (room_in S + g.limit)
    ∷ []

-- all, in their order
abbrev pub checks : State → Change → List Check
checks B (AddFlood vid addr tunnel) =
    let U = B.settings.overlay.underlay in
    in_segment B.settings vid (λ g. at_tunnel g.tunnels tunnel (flood_checks (own U) U.limits.flood g.flood addr))
checks B (RemoveFlood vid addr tunnel) = in_segment B.settings vid (λ g. at_tunnel g.tunnels tunnel (leaving_checks g.flood addr))
checks B (Fix vid mac target) = in_segment B.settings vid (fix_checks B.settings mac target (B.tables vid))
checks B (Unfix vid mac) = in_segment B.settings vid (λ g. fixed_check mac (B.tables vid) ∷ [])
checks B (SetAgeing vid seconds) = in_segment B.settings vid (λ g. ageing_check seconds ∷ [])
checks B (SetLearning vid on) = in_segment B.settings vid (λ g. [])
checks B (SetMember vid port egress) = in_segment B.settings vid (λ g. port_check (length B.settings.ports.ports) port ∷ [])
checks B (PortUp port) = port_check (length B.settings.ports.ports) port ∷ []
checks B (PortDown port) = port_check (length B.settings.ports.ports) port ∷ []
checks B (Flush vid) = in_segment B.settings vid (λ g. [])
checks B (AddSegment new) = new_checks B.settings new
checks B (RemoveSegment vid) = in_segment B.settings vid (λ g. [])
checks B (SetLimit vid limit) = in_segment B.settings vid (limit_checks B.settings limit)

-- ---- which of them are told

-- what checks saw, up to the one that refuses
abbrev pub told : List Check → List Seen
told [] = []
told (check ∷ checks) = check.saw ∷ (if check.fails then [] else told checks)

-- why the first that refuses does
abbrev pub refusal : List Check → Option ChangeFault
refusal checks = first (map (λ (check : Check). (check.fault, check.fails)) checks)

-- ---- what a change finds of what it changes

-- of the table of a segment
abbrev pub entries_in : Table → Segment → Seen
entries_in m g = seen.Entries (len m) g.limit

-- of a port that is there
abbrev pub of_port : Settings → ℕ → Seen → Option Seen
of_port S port x = if is_port (length S.ports.ports) port then Some x else None

-- where no check refuses it
abbrev pub found : State → Change → Option Seen
found B (SetAgeing vid seconds) = option_map (λ (g : Segment). seen.AgeingBefore g.span) (segment_in B.settings vid)
found B (SetLearning vid on) = option_map (λ (g : Segment). seen.Learning g.learning) (segment_in B.settings vid)
found B (SetMember vid port egress) = of_port B.settings port (seen.Member port (egress_at B.settings.ports vid port))
found B (PortUp port) = of_port B.settings port (seen.Up port (is_up B.settings.ports port))
found B (PortDown port) = of_port B.settings port (seen.Up port (is_up B.settings.ports port))
found B (Flush vid) = option_map (entries_in (B.tables vid)) (segment_in B.settings vid)
found B (RemoveSegment vid) = option_map (entries_in (B.tables vid)) (segment_in B.settings vid)
found B (SetLimit vid limit) = option_map (entries_in (B.tables vid)) (segment_in B.settings vid)
found B c = None

-- the same, unless a check refuses it
abbrev pub found_unless : Option ChangeFault → State → Change → List Seen
found_unless (Some fault) B c = []
found_unless None B c = option_to_list (found B c)

-- ---- what is asked of no change

-- VNIs have 24 bits: in code the type of VNIs has no others, so no check asks it of a segment that comes
abbrev pub AreVnis : Change → Type 0
AreVnis (AddSegment new) = are_vnis new.tunnels ≡ true
AreVnis c = Unit {0}
