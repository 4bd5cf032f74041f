-- Changes of the settings while an endpoint runs: why one is refused, what it makes of the settings, and what it does to
-- the table of a segment. It states no standard.
--     refused      why the settings refuse it
--     accepted, changed      the settings after it
--     table_fault, entries_changed      why a table refuses it, and the table after it
-- What it does to both is its effect (Effect).
use Rattle.std.specs.Prelude.{◌≡◌, ℕ, ◌+◌, Bool, not, ◌||◌, ◌&&◌, nat_lt, List, [], ◌∷◌, length}
use Rattle.std.specs.Prelude.{is_some, is_none, if◌then◌else◌, IfSome, Option, Some, None, true}
use Rattle.std.specs.Option.{option_map, option_map_or}
use Rattle.wire.specs.First.{first}
use Rattle.wire.specs.Address.{is_group as is_group_mac}
use Rattle.wire.specs.Addr.{is_group, is_usable}
use Rattle.wire.specs.declared.ip_udp.addr.Addr.{Addr}
use Rattle.wire.specs.declared.ip_udp.addr.Tunnel.{Tunnel}
use Rattle.wire.specs.declared.ip_udp.addr.Tunnel.TheVariants.{Vxlan, Geneve}
use Rattle.overlay.specs.Flood.{has_family, is_own, add_faults, holds}
use Rattle.overlay.specs.declared.flood.own.Own.{Own}
use Rattle.filter_db.specs.declared.place.Place.{Place}
use Rattle.filter_db.specs.Standing.{sum_of_limits, segment_count}
use Rattle.filter_db.specs.Table.{Table, is_full, has_fixed}
use Rattle.overlay.specs.Ports.{is_port}
use Rattle.overlay.specs.Overlay.{are_free}
use Rattle.overlay.specs.UnderlaySettings.{own}
use Rattle.overlay.specs.Tunnels.{of_kind}
use Rattle.overlay.specs.declared.underlay.tunnels.SegmentTunnel.{SegmentTunnel}
use Rattle.overlay.specs.declared.settings.change.Target.{Target}
use Rattle.overlay.specs.declared.settings.change.Target.TheVariants as target
use Rattle.overlay.specs.declared.settings.change.NewSegment.{NewSegment}
use Rattle.overlay.specs.declared.settings.change.Change.{Change}
use Rattle.overlay.specs.declared.settings.change.Change.TheVariants.{AddFlood, RemoveFlood, Fix, Unfix, SetAgeing}
use Rattle.overlay.specs.declared.settings.change.Change.TheVariants.{SetLearning, SetMember, PortUp, PortDown}
use Rattle.overlay.specs.declared.settings.change.Change.TheVariants.{Flush, AddSegment, RemoveSegment, SetLimit}
pub use Rattle.overlay.specs.Change.{named, is_about}
use Rattle.endpoint_core.specs.declared.state.fault.ChangeFault.{ChangeFault}
use Rattle.endpoint_core.specs.declared.state.fault.ChangeFault.TheVariants.{NoSegment, NoPort, NotThere, TableFull}
use Rattle.endpoint_core.specs.declared.state.fault.ChangeFault.TheVariants.{GroupAddress, OutOfRange, NoFamily, OwnAddress}
use Rattle.endpoint_core.specs.declared.state.fault.ChangeFault.TheVariants.{SegmentThere, PoolFull, SegmentsFull, NoTunnel}
use Rattle.endpoint_core.specs.Fault.{of_flood}
use Rattle.endpoint_core.specs.Settings.{Settings, SegmentSettings, tables_asked, segment_at, kind_named}
use Rattle.endpoint_core.specs.Effect.{effect, applied, TableEffect, Fixes, Unfixes, Forgets, ForgetsAll}
use Rattle.endpoint_core.specs.Effect.{Ages, Limits, Empties, KeepsAll, table_effect, table_applied}
pub use Rattle.endpoint_core.specs.Effect.{kind_in, place_of}

-- ---- why the settings refuse a change

-- what is asked of a segment that is there
abbrev pub in_segment : Option SegmentSettings → (SegmentSettings → Option ChangeFault) → Option ChangeFault
in_segment None next = Some NoSegment
in_segment (Some segment) next = next segment

-- what is asked of a tunnel that is there
abbrev pub at_tunnel : Option Tunnel → (Tunnel → Option ChangeFault) → Option ChangeFault
at_tunnel None next = Some NoTunnel
at_tunnel (Some kind) next = next kind

-- ageings have 10 to 1,000,000 seconds (IEEE 802.1Q, 8.8.3)
abbrev pub is_ageing : ℕ → Bool
is_ageing seconds = not (nat_lt seconds 10 || nat_lt 1000000 seconds)

-- limits are 1 to the most entries of a segment
abbrev pub is_limit : ℕ → ℕ → Bool
is_limit most limit = not (nat_lt limit 1 || nat_lt most limit)

-- VNIs have 24 bits (RFC 7348, 5; RFC 8926, 3.4)
abbrev pub is_vni : ℕ → Bool
is_vni vni = nat_lt vni 16777216

-- that of the tunnel of a kind, where there is one
abbrev pub is_vni_of : Tunnel → List SegmentTunnel → Bool
is_vni_of kind tunnels = option_map_or (λ t. is_vni t.vni) (of_kind kind tunnels) true

-- those of a segment's tunnels. In code the type of VNIs has no others
abbrev pub are_vnis : List SegmentTunnel → Bool
are_vnis tunnels = is_vni_of Vxlan tunnels && is_vni_of Geneve tunnels

-- there is a segment of its VID, or one with a tunnel of the kind and VNI of one of its own
abbrev pub is_taken : Settings → NewSegment → Bool
is_taken S new = is_some (segment_at S new.vid) || not (are_free S.overlay new.tunnels)

-- with its limit the limits come to more than the pool
abbrev pub is_too_much : Settings → ℕ → Bool
is_too_much S limit = nat_lt S.pool (sum_of_limits (tables_asked S) + limit)

-- no port of this number, of so many
abbrev pub port_fault : ℕ → ℕ → Option ChangeFault
port_fault ports port = first ((NoPort, not (is_port ports port)) ∷ [])

-- an address that isn't that of one other endpoint, in the order of the checks
abbrev pub addr_faults : Own → Addr → List (ChangeFault × Bool)
addr_faults own addr =
    (OutOfRange, not (is_usable addr))
    ∷ (GroupAddress, is_group addr)
    ∷ (NoFamily, not (has_family own addr))
    ∷ (OwnAddress, is_own own addr)
    ∷ []

-- no place for a fixed entry: a port or a tunnel that isn't there, or such an address
abbrev pub target_fault : Own → ℕ → List SegmentTunnel → Target → Option ChangeFault
target_fault own ports tunnels (target.Local port) = port_fault ports port
target_fault own ports tunnels (target.Remote addr tunnel) = at_tunnel (kind_named tunnels tunnel) (λ kind. first (addr_faults own addr))

-- why a fixed entry of a segment can't stand there
abbrev pub fault_at : Settings → ℕ → Target → Option ChangeFault
fault_at S vid target = in_segment (segment_at S vid) (λ s. target_fault (own S.overlay.underlay) (length S.ports.ports) s.tunnels target)

-- the first cause in the order of the checks, of those that depend on the settings alone
abbrev pub refused : Settings → Change → Option ChangeFault
refused S (AddFlood vid addr tunnel) =
    in_segment (segment_at S vid) (λ s. at_tunnel (kind_named s.tunnels tunnel)
    (λ kind. option_map of_flood (first (add_faults (own S.overlay.underlay) S.overlay.underlay.limits.flood s.flood kind addr))))
refused S (RemoveFlood vid addr tunnel) =
    in_segment (segment_at S vid)
    (λ s. at_tunnel (kind_named s.tunnels tunnel) (λ kind. first ((NotThere, not (holds s.flood kind addr)) ∷ [])))
refused S (Fix vid mac target) =
    in_segment (segment_at S vid) (λ s. if is_group_mac mac then Some GroupAddress
    else target_fault (own S.overlay.underlay) (length S.ports.ports) s.tunnels target)
refused S (Unfix vid mac) = in_segment (segment_at S vid) (λ s. None)
refused S (SetAgeing vid seconds) = in_segment (segment_at S vid) (λ s. first ((OutOfRange, not (is_ageing seconds)) ∷ []))
refused S (SetLearning vid on) = in_segment (segment_at S vid) (λ s. None)
refused S (SetMember vid port egress) = in_segment (segment_at S vid) (λ s. port_fault (length S.ports.ports) port)
refused S (PortUp port) = port_fault (length S.ports.ports) port
refused S (PortDown port) = port_fault (length S.ports.ports) port
refused S (Flush vid) = in_segment (segment_at S vid) (λ s. None)
refused S (AddSegment new) =
    first
    ((OutOfRange, not (is_limit S.overlay.underlay.limits.entries new.limit && is_ageing new.ageing && are_vnis new.tunnels))
    ∷ (SegmentThere, is_taken S new)
    ∷ (SegmentsFull, not (nat_lt (segment_count (tables_asked S)) S.overlay.underlay.limits.segments))
    ∷ (PoolFull, is_too_much S new.limit)
    ∷ [])
refused S (RemoveSegment vid) = in_segment (segment_at S vid) (λ s. None)
refused S (SetLimit vid limit) =
    in_segment (segment_at S vid) (λ s. first ((OutOfRange, not (is_limit S.overlay.underlay.limits.entries limit))
    ∷ (PoolFull, nat_lt (S.pool + s.limit) (sum_of_limits (tables_asked S) + limit)) ∷ []))

-- ---- the settings after a change

-- the settings after a change that they don't refuse
abbrev pub accepted : Settings → Change → Settings
accepted S c = applied (effect c) S

-- a refused change changes nothing
abbrev pub changed : Settings → Change → Settings
changed S c = if is_none (refused S c) then accepted S c else S

-- ---- the table of a segment

-- where a fixed entry of a segment is to stand, if there is the segment
abbrev pub IsPlaceOf : Settings → ℕ → Target → Place → Type 0
IsPlaceOf S vid target place = IfSome (segment_at S vid) (λ s. place ≡ place_of s.tunnels target)

-- why a table with this limit refuses what a change is to do to it: there is no room for a fixed entry, or none to take out
abbrev pub effect_fault : ℕ → TableEffect → Table → Option ChangeFault
effect_fault limit (Fixes mac place) m = first ((TableFull, is_full limit mac m) ∷ [])
effect_fault limit (Unfixes mac) m = first ((NotThere, not (has_fixed mac m)) ∷ [])
effect_fault limit (Forgets place) m = None
effect_fault limit ForgetsAll m = None
effect_fault limit (Ages seconds) m = None
effect_fault limit (Limits new) m = None
effect_fault limit Empties m = None
effect_fault limit KeepsAll m = None

-- why the table of its segment refuses a change that the settings don't
abbrev pub table_fault : SegmentSettings → Change → Table → Option ChangeFault
table_fault s c m = effect_fault s.limit (table_effect s c) m

-- what a change at moment t leaves of the table of a segment that it is about; the table has what is live then, under
-- the ageing before the change
abbrev pub entries_changed : ℕ → SegmentSettings → Change → Table → Table
entries_changed t s c m = table_applied t s.limit (table_effect s c) m
