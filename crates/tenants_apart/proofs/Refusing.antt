-- Why a change is refused, by a segment's own part of the settings.
use Rattle.std.proofs.Common.{◌≡◌, ◌∙◌, refl, sym, ℕ, ◌==◌, Bool, true, cond, not, ◌&&◌, nat_le, min, List, [], ◌∷◌, length, Option, Some, None, ap, subst}
use Rattle.std.specs.Prelude.{if◌then◌else◌}
use Rattle.std.proofs.Math.Path.{fun_ext}
use Rattle.std.specs.Option.{option_map, option_map_or}
use Rattle.std.proofs.lemmas.Bool.{eqb-true}
use Rattle.wire.specs.First.{first}
use Rattle.wire.specs.Address.{is_group as is_group_mac}
use Rattle.wire.specs.Addr.{is_usable}
use Rattle.wire.specs.declared.ip_udp.addr.Addr.{Addr}
use Rattle.wire.specs.declared.ip_udp.addr.Tunnel.{Tunnel}
use Rattle.overlay.specs.Flood.{Entries, has_family, is_own, add_faults, holds}
use Rattle.overlay.specs.declared.flood.fault.FloodFault.{FloodFault}
use Rattle.overlay.specs.declared.flood.fault.FloodFault.TheVariants as flood
use Rattle.overlay.specs.declared.flood.own.Own.{Own}
use Rattle.overlay.specs.Overlay.{flood_at}
use Rattle.overlay.specs.Ports.{Members}
use Rattle.overlay.specs.declared.underlay.segment.Segment.{Segment}
use Rattle.overlay.specs.declared.underlay.settings.Underlay.{Underlay}
use Rattle.overlay.specs.UnderlaySettings.{own}
use Rattle.overlay.specs.declared.underlay.tunnels.SegmentTunnel.{SegmentTunnel}
use Rattle.overlay.specs.declared.settings.change.Target.{Target}
use Rattle.overlay.specs.declared.settings.change.Target.TheVariants as target
use Rattle.overlay.specs.declared.settings.change.Change.{Change}
use Rattle.overlay.specs.declared.settings.change.Change.TheVariants.{AddFlood, RemoveFlood, Fix, Unfix, SetAgeing, SetLearning, SetMember, PortUp, PortDown, Flush, AddSegment, RemoveSegment, SetLimit}
use Rattle.endpoint_core.specs.declared.state.fault.ChangeFault.{ChangeFault}
use Rattle.endpoint_core.specs.declared.state.fault.ChangeFault.TheVariants.{NotThere, GroupAddress, OutOfRange}
use Rattle.endpoint_core.specs.Effect.{effect}
use Rattle.endpoint_core.specs.Fault.{of_flood}
use Rattle.endpoint_core.specs.Settings.{Settings, BridgeSettings, SegmentSettings, kind_named}
use Rattle.endpoint_core.specs.Change.{is_about, in_segment, at_tunnel, is_ageing, port_fault, addr_faults, target_fault, refused}
use Rattle.noninterference.proofs.Seeing.{own_by}
use Rattle.tenants_apart.proofs.There.{fault_there, fault-there}
use Rattle.tenants_apart.specs.Own.{Needs, Part, common, port_there, part_of, is_needed, asks_room, is_at_needed, asks_within}

-- the parts of a segment's settings put together, where each is there
abbrev pub whole_of : Part → Option SegmentSettings
whole_of x = own_by x.bridge x.tunnels x.members

-- what is of the segment of this VID is of the one that is named
pub part-named : (vid v : ℕ) (needs : Needs) (S T : Settings) → part_of vid needs S ≡ part_of vid needs T → (vid == v) ≡ true → part_of v needs S ≡ part_of v needs T
part-named vid v needs S T h same = subst (λ (w : ℕ). part_of w needs S ≡ part_of w needs T) (eqb-true vid v same) h

-- ---- a remote that is added

-- why a flood list refuses it, which is full or isn't
abbrev rows_by : Own → Bool → Entries → Tunnel → Addr → List (FloodFault × Bool)
rows_by own full list kind addr =
    (flood.OutOfRange, not (is_usable addr))
    ∷ (flood.NoFamily, not (has_family own addr))
    ∷ (flood.OwnAddress, is_own own addr)
    ∷ (flood.AlreadyThere, holds list kind addr)
    ∷ (flood.FloodFull, full)
    ∷ []

abbrev added_by : Addr → Option Tunnel → Own → (ℕ → Bool) → SegmentSettings → Option ChangeFault
added_by addr tunnel own full s = at_tunnel (kind_named s.tunnels tunnel) (λ kind. option_map of_flood (first (rows_by own (full (length s.flood)) s.flood kind addr)))

-- by what the segment needs of the room for flood lists
added-by : (needs : Needs) (U : Underlay) (addr : Addr) (tunnel : Option Tunnel) (bridge : Option BridgeSettings) (segment : Option Segment) (members : Option Members)
    → needs.lengths (length (option_map_or (λ g. g.flood) segment [])) ≡ true
    → in_segment (own_by bridge segment members) (λ s. at_tunnel (kind_named s.tunnels tunnel) (λ kind. option_map of_flood (first (add_faults (own U) U.limits.flood s.flood kind addr))))
    ≡ in_segment (own_by bridge segment members) (added_by addr tunnel (own (common U)) (λ n. needs.lengths n && nat_le (min U.limits.flood 512) n))
added-by needs U addr tunnel None segment members within = refl
added-by needs U addr tunnel (Some b) None members within = refl
added-by needs U addr tunnel (Some b) (Some g) None within = refl
added-by needs U addr tunnel (Some b) (Some g) (Some m) within =
    ap (λ (needed : Bool). at_tunnel (kind_named g.tunnels tunnel) (λ kind. option_map of_flood (first (rows_by (own U) (needed && nat_le (min U.limits.flood 512) (length g.flood)) g.flood kind addr)))) (sym within)

added-needed : (v : ℕ) (needs : Needs) (S T : Settings) → part_of v needs S ≡ part_of v needs T → (addr : Addr) (tunnel : Option Tunnel) → needs.lengths (length (flood_at S.overlay v)) ≡ true → refused S (AddFlood v addr tunnel) ≡ refused T (AddFlood v addr tunnel)
added-needed v needs S T h addr tunnel within =
    added-by needs S.overlay.underlay addr tunnel (part_of v needs S).bridge (part_of v needs S).tunnels (part_of v needs S).members within
    ∙ ap (λ (x : Part). in_segment (whole_of x) (added_by addr tunnel (own x.shared.underlay) x.shared.full)) h
    ∙ sym (added-by needs T.overlay.underlay addr tunnel (part_of v needs T).bridge (part_of v needs T).tunnels (part_of v needs T).members
    (ap (λ (x : Part). needs.lengths (length (option_map_or (λ (g : Segment). g.flood) x.tunnels []))) (sym h) ∙ within))

-- ---- all changes

-- whether there is a port that it needs
port-needed : (v : ℕ) (needs : Needs) (S T : Settings) → part_of v needs S ≡ part_of v needs T → (port : ℕ) → needs.ports port ≡ true → port_fault (length S.ports.ports) port ≡ port_fault (length T.ports.ports) port
port-needed v needs S T h port needed =
    fault-there S.ports port
    ∙ ap (λ (b : Bool). fault_there (cond b (port_there S.ports port) None)) (sym needed)
    ∙ ap (λ (x : Part). fault_there (x.ports port)) h
    ∙ ap (λ (b : Bool). fault_there (cond b (port_there T.ports port) None)) needed
    ∙ sym (fault-there T.ports port)

-- whether an entry can stand there
target-needed : (v : ℕ) (needs : Needs) (S T : Settings) → part_of v needs S ≡ part_of v needs T → (place : Target) → is_at_needed needs place ≡ true → (tunnels : List SegmentTunnel)
    → target_fault (own S.overlay.underlay) (length S.ports.ports) tunnels place ≡ target_fault (own T.overlay.underlay) (length T.ports.ports) tunnels place
target-needed v needs S T h (target.Local port) needed tunnels = port-needed v needs S T h port needed
target-needed v needs S T h (target.Remote addr tunnel) needed tunnels =
    ap (λ (x : Part). at_tunnel (kind_named tunnels tunnel) (λ kind. first (addr_faults (own x.shared.underlay) addr))) h

-- a change of the segment's own or of a port is refused alike, where it is if it needs room
pub refused-own : (vid : ℕ) (needs : Needs) (S T : Settings) → part_of vid needs S ≡ part_of vid needs T → (c : Change) → is_about vid c ≡ true → is_needed needs (effect c) ≡ true → asks_within needs S c ≡ true → (asks_room vid c ≡ true → refused S c ≡ refused T c) → refused S c ≡ refused T c
refused-own vid needs S T h (AddFlood v addr tunnel) about needed within room = added-needed v needs S T (part-named vid v needs S T h about) addr tunnel within
refused-own vid needs S T h (RemoveFlood v addr tunnel) about needed within room =
    ap (λ (x : Part). in_segment (whole_of x) (λ s. at_tunnel (kind_named s.tunnels tunnel) (λ kind. first ((NotThere, not (holds s.flood kind addr)) ∷ [])))) (part-named vid v needs S T h about)
refused-own vid needs S T h (Fix v mac place) about needed within room =
    let here = part-named vid v needs S T h about in
    ap (λ (o : Option SegmentSettings). in_segment o (λ s. if is_group_mac mac then Some GroupAddress else target_fault (own S.overlay.underlay) (length S.ports.ports) s.tunnels place)) (ap whole_of here)
    ∙ ap (λ (f : List SegmentTunnel → Option ChangeFault). in_segment (whole_of (part_of v needs T)) (λ s. if is_group_mac mac then Some GroupAddress else f s.tunnels)) (fun_ext (target-needed v needs S T here place within))
refused-own vid needs S T h (Unfix v mac) about needed within room = ap (λ (x : Part). in_segment (whole_of x) (λ s. None)) (part-named vid v needs S T h about)
refused-own vid needs S T h (SetAgeing v seconds) about needed within room = ap (λ (x : Part). in_segment (whole_of x) (λ s. first ((OutOfRange, not (is_ageing seconds)) ∷ []))) (part-named vid v needs S T h about)
refused-own vid needs S T h (SetLearning v on) about needed within room = ap (λ (x : Part). in_segment (whole_of x) (λ s. None)) (part-named vid v needs S T h about)
refused-own vid needs S T h (SetMember v port egress) about needed within room =
    let here = part-named vid v needs S T h about in
    ap (λ (o : Option SegmentSettings). in_segment o (λ s. port_fault (length S.ports.ports) port)) (ap whole_of here)
    ∙ ap (λ (why : Option ChangeFault). in_segment (whole_of (part_of v needs T)) (λ s. why)) (port-needed v needs S T here port within)
refused-own vid needs S T h (PortUp port) about needed within room = port-needed vid needs S T h port needed
refused-own vid needs S T h (PortDown port) about needed within room = port-needed vid needs S T h port needed
refused-own vid needs S T h (Flush v) about needed within room = ap (λ (x : Part). in_segment (whole_of x) (λ s. None)) (part-named vid v needs S T h about)
refused-own vid needs S T h (AddSegment new) about needed within room = room about
refused-own vid needs S T h (RemoveSegment v) about needed within room = ap (λ (x : Part). in_segment (whole_of x) (λ s. None)) (part-named vid v needs S T h about)
refused-own vid needs S T h (SetLimit v limit) about needed within room = room about
