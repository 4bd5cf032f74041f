-- Faults of the settings, and of tables.
use Rattle.std.proofs.Common.{◌≡◌, ◌∙◌, ap, refl, ℕ, Bool, true, false, cond, not, List, length, Option, Some, None}
use Rattle.std.specs.Option.{option_and_then, option_map}
use Rattle.wire.specs.Address.{is_group as is_group_mac}
use Rattle.wire.specs.First.{first}
use Rattle.wire.specs.declared.ip_udp.addr.Addr.{Addr}
use Rattle.wire.specs.declared.ip_udp.addr.Tunnel.{Tunnel}
use Rattle.overlay.specs.Flood.{add_faults, has_family, holds, is_own}
use Rattle.overlay.specs.declared.flood.own.Own.{Own as OwnAddrs}
use Rattle.overlay.specs.declared.flood.fault.FloodFault.{FloodFault}
use Rattle.overlay.specs.declared.flood.fault.FloodFault.TheVariants as flood
use Rattle.wire.specs.Addr.{is_group, is_usable}
use Rattle.filter_db.specs.Table.{has_fixed, is_full}
use Rattle.overlay.specs.Ports.{is_port}
use Rattle.overlay.specs.UnderlaySettings.{own}
use Rattle.overlay.specs.declared.underlay.tunnels.SegmentTunnel.{SegmentTunnel}
use Rattle.overlay.specs.declared.settings.change.Change.{Change}
use Rattle.overlay.specs.declared.settings.change.Change.TheVariants.{AddFlood, RemoveFlood, Fix, Unfix, SetAgeing, SetLearning, SetMember, PortUp, PortDown, Flush, AddSegment, RemoveSegment, SetLimit}
use Rattle.overlay.specs.declared.settings.change.Target.{Target}
use Rattle.overlay.specs.declared.settings.change.Target.TheVariants as target
use Rattle.endpoint_core.specs.declared.state.fault.ChangeFault.{ChangeFault}
use Rattle.endpoint_core.specs.declared.state.fault.ChangeFault.TheVariants.{NoPort, NotThere, TableFull, GroupAddress, OutOfRange, NoFamily, OwnAddress, SegmentThere, PoolFull, SegmentsFull}
use Rattle.endpoint_core.specs.Change.{addr_faults, at_tunnel, changed, in_segment, is_ageing, port_fault, refused, table_fault, target_fault, named}
use Rattle.endpoint_core.specs.Fault.{of_flood}
use Rattle.endpoint_core.specs.Settings.{SegmentSettings, Settings, kind_named, segment_at}
use Rattle.endpoint_core.specs.State.{State, after_change, fault}
use Rattle.endpoint_core.proofs.ChangeLemmas.{settings-alone}
use Rattle.check_on_files.specs.Foreseen.{TellsNothingOfTables, by_settings}

-- a fault, if any, that isn't a table's
abbrev IsOwn : Change → Option ChangeFault → Type 0
IsOwn c o = option_and_then (by_settings c) o ≡ o

row : (c : Change) (f : ChangeFault) (b : Bool) (rest : Option ChangeFault) → by_settings c f ≡ Some f → IsOwn c rest → IsOwn c (cond b (Some f) rest)
row c f true rest own later = own
row c f false rest own later = later

in_segment-own : (c : Change) (o : Option SegmentSettings) (next : SegmentSettings → Option ChangeFault) → ((s : SegmentSettings) → IsOwn c (next s)) → IsOwn c (in_segment o next)
in_segment-own c None next h = refl
in_segment-own c (Some s) next h = h s

at_tunnel-own : (c : Change) (o : Option Tunnel) (next : Tunnel → Option ChangeFault) → ((kind : Tunnel) → IsOwn c (next kind)) → IsOwn c (at_tunnel o next)
at_tunnel-own c None next h = refl
at_tunnel-own c (Some kind) next h = h kind

port-own : (c : Change) (ports port : ℕ) → IsOwn c (port_fault ports port)
port-own c ports port = row c NoPort (not (is_port ports port)) None refl refl

flood-own : (c : Change) (o : Option FloodFault) → IsOwn c (option_map of_flood o)
flood-own c None = refl
flood-own c (Some flood.OutOfRange) = refl
flood-own c (Some flood.NoFamily) = refl
flood-own c (Some flood.OwnAddress) = refl
flood-own c (Some flood.AlreadyThere) = refl
flood-own c (Some flood.FloodFull) = refl

addr-own : (c : Change) (addrs : OwnAddrs) (addr : Addr) → IsOwn c (first (addr_faults addrs addr))
addr-own c addrs addr =
    row c OutOfRange (not (is_usable addr)) _ refl
    (row c GroupAddress (is_group addr) _ refl
    (row c NoFamily (not (has_family addrs addr)) _ refl
    (row c OwnAddress (is_own addrs addr) None refl refl)))

target-own : (c : Change) (addrs : OwnAddrs) (ports : ℕ) (tunnels : List SegmentTunnel) (t : Target) → IsOwn c (target_fault addrs ports tunnels t)
target-own c addrs ports tunnels (target.Local port) = port-own c ports port
target-own c addrs ports tunnels (target.Remote addr tunnel) = at_tunnel-own c (kind_named tunnels tunnel) _ (λ kind. addr-own c addrs addr)

-- what the settings refuse a change with is no table's fault
settings-own : (S : Settings) (c : Change) → IsOwn c (refused S c)
settings-own S (AddFlood vid addr tunnel) =
    in_segment-own (AddFlood vid addr tunnel) (segment_at S vid) _ (λ s. at_tunnel-own (AddFlood vid addr tunnel) (kind_named s.tunnels tunnel) _ (λ kind. flood-own (AddFlood vid addr tunnel) (first (add_faults (own S.overlay.underlay) S.overlay.underlay.limits.flood s.flood kind addr))))
settings-own S (RemoveFlood vid addr tunnel) =
    in_segment-own (RemoveFlood vid addr tunnel) (segment_at S vid) _ (λ s. at_tunnel-own (RemoveFlood vid addr tunnel) (kind_named s.tunnels tunnel) _ (λ kind. row (RemoveFlood vid addr tunnel) NotThere (not (holds s.flood kind addr)) None refl refl))
settings-own S (Fix vid mac target) =
    in_segment-own (Fix vid mac target) (segment_at S vid) _ (λ s. row (Fix vid mac target) GroupAddress (is_group_mac mac) _ refl (target-own (Fix vid mac target) (own S.overlay.underlay) (length S.ports.ports) s.tunnels target))
settings-own S (Unfix vid mac) = in_segment-own (Unfix vid mac) (segment_at S vid) _ (λ s. refl)
settings-own S (SetAgeing vid seconds) =
    in_segment-own (SetAgeing vid seconds) (segment_at S vid) _ (λ s. row (SetAgeing vid seconds) OutOfRange (not (is_ageing seconds)) None refl refl)
settings-own S (SetLearning vid on) = in_segment-own (SetLearning vid on) (segment_at S vid) _ (λ s. refl)
settings-own S (SetMember vid port egress) = in_segment-own (SetMember vid port egress) (segment_at S vid) _ (λ s. port-own (SetMember vid port egress) (length S.ports.ports) port)
settings-own S (PortUp port) = port-own (PortUp port) (length S.ports.ports) port
settings-own S (PortDown port) = port-own (PortDown port) (length S.ports.ports) port
settings-own S (Flush vid) = in_segment-own (Flush vid) (segment_at S vid) _ (λ s. refl)
settings-own S (AddSegment new) =
    row (AddSegment new) OutOfRange _ _ refl (row (AddSegment new) SegmentThere _ _ refl (row (AddSegment new) SegmentsFull _ _ refl (row (AddSegment new) PoolFull _ None refl refl)))
settings-own S (RemoveSegment vid) = in_segment-own (RemoveSegment vid) (segment_at S vid) _ (λ s. refl)
settings-own S (SetLimit vid limit) =
    in_segment-own (SetLimit vid limit) (segment_at S vid) _ (λ s. row (SetLimit vid limit) OutOfRange _ _ refl (row (SetLimit vid limit) PoolFull _ None refl refl))

-- ---- tables

-- a table's part says nothing of the settings
none_of : (c : Change) (o : Option SegmentSettings) (f : SegmentSettings → Option ChangeFault) → ((s : SegmentSettings) → option_and_then (by_settings c) (f s) ≡ None) → option_and_then (by_settings c) (option_and_then f o) ≡ None
none_of c None f h = refl
none_of c (Some s) f h = h s

full : (c : Change) (b : Bool) → option_and_then (by_settings c) (cond b (Some TableFull) None) ≡ None
full c true = refl
full c false = refl

absent : (vid : ℕ) (mac : List ℕ) (b : Bool) → option_and_then (by_settings (Unfix vid mac)) (cond b (Some NotThere) None) ≡ None
absent vid mac true = refl
absent vid mac false = refl

table-none : (S : State) (c : Change) → option_and_then (by_settings c) (option_and_then (λ vid. option_and_then (λ s. table_fault s c (S.tables vid)) (segment_at S.settings vid)) (named c)) ≡ None
table-none S (AddFlood vid addr tunnel) = none_of (AddFlood vid addr tunnel) (segment_at S.settings vid) _ (λ s. refl)
table-none S (RemoveFlood vid addr tunnel) = none_of (RemoveFlood vid addr tunnel) (segment_at S.settings vid) _ (λ s. refl)
table-none S (Fix vid mac target) = none_of (Fix vid mac target) (segment_at S.settings vid) _ (λ s. full (Fix vid mac target) (is_full s.limit mac (S.tables vid)))
table-none S (Unfix vid mac) = none_of (Unfix vid mac) (segment_at S.settings vid) _ (λ s. absent vid mac (not (has_fixed mac (S.tables vid))))
table-none S (SetAgeing vid seconds) = none_of (SetAgeing vid seconds) (segment_at S.settings vid) _ (λ s. refl)
table-none S (SetLearning vid on) = none_of (SetLearning vid on) (segment_at S.settings vid) _ (λ s. refl)
table-none S (SetMember vid port (Some egress)) = none_of (SetMember vid port (Some egress)) (segment_at S.settings vid) _ (λ s. refl)
table-none S (SetMember vid port None) = none_of (SetMember vid port None) (segment_at S.settings vid) _ (λ s. refl)
table-none S (PortUp port) = refl
table-none S (PortDown port) = refl
table-none S (Flush vid) = none_of (Flush vid) (segment_at S.settings vid) _ (λ s. refl)
table-none S (AddSegment new) = none_of (AddSegment new) (segment_at S.settings new.vid) _ (λ s. refl)
table-none S (RemoveSegment vid) = none_of (RemoveSegment vid) (segment_at S.settings vid) _ (λ s. refl)
table-none S (SetLimit vid limit) = none_of (SetLimit vid limit) (segment_at S.settings vid) _ (λ s. refl)

pub tells_nothing_of_tables : TellsNothingOfTables
tells_nothing_of_tables S c = by (refused S.settings c) (settings-own S.settings c)
  where
    by : (r : Option ChangeFault) → IsOwn c r
        → option_and_then (by_settings c) (elim r [ Some why ↦ Some why | None ↦ option_and_then (λ vid. option_and_then (λ s. table_fault s c (S.tables vid)) (segment_at S.settings vid)) (named c) ]) ≡ r
    by (Some why) is = is
    by None is = table-none S c

pub answered : (S : State) (c : Change) (f : Option ChangeFault) → f ≡ fault S c → option_and_then (by_settings c) f ≡ refused S.settings c
answered S c f is = ap (option_and_then (by_settings c)) is ∙ tells_nothing_of_tables S c

pub settings_after : (S T : State) (c : Change) → T ≡ after_change 0 c S → T.settings ≡ changed S.settings c
settings_after S T c is = ap (λ (s : State). s.settings) is ∙ settings-alone 0 c S
