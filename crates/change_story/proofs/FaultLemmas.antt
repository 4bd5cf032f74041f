-- Why the first check that refuses a change does is why the change is refused.
use Rattle.std.proofs.Common.{◌≡◌, refl, ℕ, Bool, true, false, not, ◌&&◌, ◌||◌, ◌+◌, List, [], ◌∷◌, ◌++◌, length, Option, Some, None}
use Rattle.std.specs.Prelude.{is_some, min, nat_lt, nat_le, if◌then◌else◌}
use Rattle.std.specs.Option.{option_and_then, option_map, option_map_or}
use Rattle.std.proofs.lemmas.Bool.{false≢true}
use Rattle.wire.specs.Address.{is_group as is_group_mac}
use Rattle.wire.specs.First.{first}
use Rattle.wire.specs.Addr.{is_group, is_usable}
use Rattle.wire.specs.declared.ip_udp.addr.Addr.{Addr}
use Rattle.wire.specs.declared.ip_udp.addr.Tunnel.{Tunnel}
use Rattle.filter_db.specs.Standing.{segment_count, sum_of_limits}
use Rattle.filter_db.specs.Table.{Table, is_full}
use Rattle.overlay.specs.Flood.{Entries, add_faults, has_family, holds, is_own}
use Rattle.overlay.specs.declared.flood.own.Own.{Own as OwnAddrs}
use Rattle.overlay.specs.declared.flood.fault.FloodFault.TheVariants as flood
use Rattle.overlay.specs.Ports.{is_port}
use Rattle.overlay.specs.Overlay.{are_free}
use Rattle.overlay.specs.UnderlaySettings.{own}
use Rattle.overlay.specs.declared.settings.change.Change.{Change}
use Rattle.overlay.specs.declared.settings.change.Change.TheVariants.{AddFlood, RemoveFlood, Fix, Unfix, SetAgeing, SetLearning, SetMember, PortUp, PortDown, Flush, AddSegment, RemoveSegment, SetLimit}
use Rattle.overlay.specs.declared.settings.change.Target.{Target}
use Rattle.overlay.specs.declared.settings.change.Target.TheVariants as target
use Rattle.endpoint_core.specs.Change as change
use Rattle.endpoint_core.specs.Change.{is_ageing, is_limit, is_too_much, are_vnis}
use Rattle.endpoint_core.specs.Fault.{of_flood}
use Rattle.endpoint_core.specs.Settings.{Settings, SegmentSettings, kind_named, segment_at, tables_asked}
use Rattle.endpoint_core.specs.State.{State, fault}
use Rattle.endpoint_core.specs.declared.state.fault.ChangeFault.{ChangeFault}
use Rattle.endpoint_core.specs.declared.state.fault.ChangeFault.TheVariants.{NoPort, AlreadyThere, NotThere, FloodFull, TableFull, GroupAddress, OutOfRange, NoFamily, OwnAddress, SegmentThere, PoolFull, SegmentsFull}
use Rattle.change_story.specs.Checks.{AreVnis, checks, refusal, segment_check, tunnel_check, flood_checks, leaving_checks, remote_checks, target_checks, fix_checks, room_check}
use Rattle.change_story.specs.Segment.{Segment, segment_of}
use Rattle.change_story.specs.declared.check.Check.{Check}

-- the settings' fault, or else the table's
abbrev or_table : Option ChangeFault → Option ChangeFault → Option ChangeFault
or_table o t = elim o [ Some why ↦ Some why | None ↦ t ]

-- in the segment that is named
segment : (o : Option SegmentSettings) (vid : ℕ) (next : Segment → List Check) (by_settings by_table : SegmentSettings → Option ChangeFault)
    → ((s : SegmentSettings) → refusal (next (segment_of s)) ≡ or_table (by_settings s) (by_table s))
    → refusal (segment_check vid (is_some (option_map segment_of o)) ∷ option_map_or next (option_map segment_of o) []) ≡ or_table (change.in_segment o by_settings) (option_and_then by_table o)
segment None vid next by_settings by_table h = refl
segment (Some s) vid next by_settings by_table h = h s

-- one check alone
one : (f : ChangeFault) (a : Bool) → first ((f, a) ∷ []) ≡ or_table (first ((f, a) ∷ [])) None
one f true = refl
one f false = refl

-- two
two : (f g : ChangeFault) (a b : Bool) → first ((f, a) ∷ (g, b) ∷ []) ≡ or_table (first ((f, a) ∷ (g, b) ∷ [])) None
two f g true b = refl
two f g false true = refl
two f g false false = refl

-- one that the settings make, and one that the table makes
both : (f g : ChangeFault) (a b : Bool) → first ((f, a) ∷ (g, b) ∷ []) ≡ or_table (first ((f, a) ∷ [])) (first ((g, b) ∷ []))
both f g true b = refl
both f g false true = refl
both f g false false = refl

-- those of a flood list
flooding : (a b c d e : Bool)
    → first ((OutOfRange, a) ∷ (NoFamily, b) ∷ (OwnAddress, c) ∷ (AlreadyThere, d) ∷ (FloodFull, e) ∷ [])
    ≡ or_table (option_map of_flood (first ((flood.OutOfRange, a) ∷ (flood.NoFamily, b) ∷ (flood.OwnAddress, c) ∷ (flood.AlreadyThere, d) ∷ (flood.FloodFull, e) ∷ []))) None
flooding true b c d e = refl
flooding false true c d e = refl
flooding false false true d e = refl
flooding false false false true e = refl
flooding false false false false true = refl
flooding false false false false false = refl

adding : (addrs : OwnAddrs) (most : ℕ) (list : Entries) (addr : Addr) (tunnel k : Option Tunnel)
    → refusal (tunnel_check tunnel k ∷ option_map_or (flood_checks addrs most list addr) k []) ≡ or_table (change.at_tunnel k (λ kind. option_map of_flood (first (add_faults addrs most list kind addr)))) None
adding addrs most list addr tunnel None = refl
adding addrs most list addr tunnel (Some kind) = flooding (not (is_usable addr)) (not (has_family addrs addr)) (is_own addrs addr) (holds list kind addr) (nat_le (min most 512) (length list))

leaving : (list : Entries) (addr : Addr) (tunnel k : Option Tunnel)
    → refusal (tunnel_check tunnel k ∷ option_map_or (leaving_checks list addr) k []) ≡ or_table (change.at_tunnel k (λ kind. first ((NotThere, not (holds list kind addr)) ∷ []))) None
leaving list addr tunnel None = refl
leaving list addr tunnel (Some kind) = one NotThere (not (holds list kind addr))

-- those of a remote endpoint, and of the table
remote : (a b c d e : Bool)
    → first ((OutOfRange, a) ∷ (GroupAddress, b) ∷ (NoFamily, c) ∷ (OwnAddress, d) ∷ (TableFull, e) ∷ [])
    ≡ or_table (first ((OutOfRange, a) ∷ (GroupAddress, b) ∷ (NoFamily, c) ∷ (OwnAddress, d) ∷ [])) (first ((TableFull, e) ∷ []))
remote true b c d e = refl
remote false true c d e = refl
remote false false true d e = refl
remote false false false true e = refl
remote false false false false true = refl
remote false false false false false = refl

fixing-remote : (addrs : OwnAddrs) (addr : Addr) (tunnel k : Option Tunnel) (limit : ℕ) (mac : List ℕ) (m : Table)
    → refusal ((tunnel_check tunnel k ∷ option_map_or (remote_checks addrs addr) k []) ++ room_check limit mac m ∷ [])
    ≡ or_table (change.at_tunnel k (λ kind. first (change.addr_faults addrs addr))) (first ((TableFull, is_full limit mac m) ∷ []))
fixing-remote addrs addr tunnel None limit mac m = refl
fixing-remote addrs addr tunnel (Some kind) limit mac m = remote (not (is_usable addr)) (is_group addr) (not (has_family addrs addr)) (is_own addrs addr) (is_full limit mac m)

fixing-at : (S : Settings) (mac : List ℕ) (t : Target) (m : Table) (s : SegmentSettings)
    → refusal (target_checks S (segment_of s) t ++ room_check s.limit mac m ∷ [])
    ≡ or_table (change.target_fault (own S.overlay.underlay) (length S.ports.ports) s.tunnels t) (first ((TableFull, is_full s.limit mac m) ∷ []))
fixing-at S mac (target.Local port) m s = both NoPort TableFull (not (is_port (length S.ports.ports) port)) (is_full s.limit mac m)
fixing-at S mac (target.Remote addr tunnel) m s = fixing-remote (own S.overlay.underlay) addr tunnel (kind_named s.tunnels tunnel) s.limit mac m

-- a group's address refuses first
grouped : (b : Bool) (rest by_settings by_table : Option ChangeFault) → rest ≡ or_table by_settings by_table
    → (if b then Some GroupAddress else rest) ≡ or_table (if b then Some GroupAddress else by_settings) by_table
grouped true rest by_settings by_table h = refl
grouped false rest by_settings by_table h = h

fixing : (S : Settings) (mac : List ℕ) (t : Target) (m : Table) (s : SegmentSettings)
    → refusal (fix_checks S mac t m (segment_of s))
    ≡ or_table (if is_group_mac mac then Some GroupAddress else change.target_fault (own S.overlay.underlay) (length S.ports.ports) s.tunnels t) (first ((TableFull, is_full s.limit mac m) ∷ []))
fixing S mac t m s = grouped (is_group_mac mac) _ _ _ (fixing-at S mac t m s)

-- those of a segment that comes
coming : (o : Option SegmentSettings) (limit ageing vnis free full much : Bool) → vnis ≡ true
    → first ((OutOfRange, not limit) ∷ (OutOfRange, not ageing) ∷ (SegmentThere, is_some (option_map segment_of o)) ∷ (SegmentThere, not free) ∷ (SegmentsFull, full) ∷ (PoolFull, much) ∷ [])
    ≡ or_table (first ((OutOfRange, not (limit && ageing && vnis)) ∷ (SegmentThere, is_some o || not free) ∷ (SegmentsFull, full) ∷ (PoolFull, much) ∷ [])) (option_and_then {T = SegmentSettings} (λ s. None) o)
coming o limit ageing false free full much is = absurd (false≢true is)
coming o false ageing true free full much is = refl
coming o true false true free full much is = refl
coming (Some s) true true true free full much is = refl
coming None true true true false full much is = refl
coming None true true true true true much is = refl
coming None true true true true false true is = refl
coming None true true true true false false is = refl

pub fault-first : (B : State) (c : Change) → AreVnis c → refusal (checks B c) ≡ fault B c
fault-first B (AddFlood vid addr tunnel) h = segment (segment_at B.settings vid) vid _ _ _ (λ s. adding (own B.settings.overlay.underlay) B.settings.overlay.underlay.limits.flood s.flood addr tunnel (kind_named s.tunnels tunnel))
fault-first B (RemoveFlood vid addr tunnel) h = segment (segment_at B.settings vid) vid _ _ _ (λ s. leaving s.flood addr tunnel (kind_named s.tunnels tunnel))
fault-first B (Fix vid mac target) h = segment (segment_at B.settings vid) vid _ _ _ (λ s. fixing B.settings mac target (B.tables vid) s)
fault-first B (Unfix vid mac) h = segment (segment_at B.settings vid) vid _ _ _ (λ s. refl)
fault-first B (SetAgeing vid seconds) h = segment (segment_at B.settings vid) vid _ _ _ (λ s. one OutOfRange (not (is_ageing seconds)))
fault-first B (SetLearning vid on) h = segment (segment_at B.settings vid) vid _ _ _ (λ s. refl)
fault-first B (SetMember vid port (Some egress)) h = segment (segment_at B.settings vid) vid _ _ _ (λ s. one NoPort (not (is_port (length B.settings.ports.ports) port)))
fault-first B (SetMember vid port None) h = segment (segment_at B.settings vid) vid _ _ _ (λ s. one NoPort (not (is_port (length B.settings.ports.ports) port)))
fault-first B (PortUp port) h = one NoPort (not (is_port (length B.settings.ports.ports) port))
fault-first B (PortDown port) h = one NoPort (not (is_port (length B.settings.ports.ports) port))
fault-first B (Flush vid) h = segment (segment_at B.settings vid) vid _ _ _ (λ s. refl)
fault-first B (AddSegment new) h =
    coming (segment_at B.settings new.vid) (is_limit B.settings.overlay.underlay.limits.entries new.limit) (is_ageing new.ageing) (are_vnis new.tunnels) (are_free B.settings.overlay new.tunnels) (not (nat_lt (segment_count (tables_asked B.settings)) B.settings.overlay.underlay.limits.segments)) (is_too_much B.settings new.limit) h
fault-first B (RemoveSegment vid) h = segment (segment_at B.settings vid) vid _ _ _ (λ s. refl)
fault-first B (SetLimit vid limit) h =
    segment (segment_at B.settings vid) vid _ _ _ (λ s. two OutOfRange PoolFull (not (is_limit B.settings.overlay.underlay.limits.entries limit)) (nat_lt (B.settings.pool + s.limit) (sum_of_limits (tables_asked B.settings) + limit)))
