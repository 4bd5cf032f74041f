-- What becomes of the broadcasts of one segment at another, over one tunnel (RFC 7348, 4; RFC 8926, 2).
--     faults, outcome     why a broadcast that one entry of a flood list sends there is dropped, in the endpoint's order of reasons
--     comes               it comes
--     unanswered, hole    why the answer is lost, and why nothing comes
use Rattle.std.specs.Prelude.{ℕ, ◌==◌, ◌&&◌, ◌||◌, nat_lt, Bool, false, not, List, [], ◌∷◌, Option, Some, None, is_some, is_none, if◌then◌else◌, fold, option_and_then}
use Rattle.std.specs.List.{list_any}
use Rattle.std.specs.Option.{option_map, option_map_or}
use Rattle.wire.specs.declared.ether.reason.Reason.{Reason}
use Rattle.wire.specs.declared.ether.reason.Reason.TheVariants.{BadOuterSource, NotTunnel, ZeroSum, UnknownVni, WrongGroup, UnknownPeer}
use Rattle.wire.specs.declared.ip_udp.addr.Addr.{Addr}
use Rattle.wire.specs.declared.ip_udp.addr.Addr.TheVariants.{V4, V6}
use Rattle.wire.specs.declared.ip_udp.addr.Tunnel.{Tunnel}
use Rattle.wire.specs.declared.ip_udp.addr.Tunnel.TheVariants.{Vxlan, Geneve}
use Rattle.wire.specs.Addr.{is_group, same_kind}
use Rattle.wire.specs.First.{first}
use Rattle.wire.specs.Reason.{number_of}
use Rattle.overlay.specs.declared.flood.own.Own.{Own}
use Rattle.overlay.specs.declared.flood.remote.Remote.{Remote}
use Rattle.overlay.specs.Flood.{Entries, holds, is_own, is_there}
use Rattle.overlay.specs.Tunnels.{of_kind}
use Rattle.fabric_grid.specs.declared.cell.Hole.{Hole}
use Rattle.fabric_grid.specs.declared.cell.Hole.TheVariants.{NoTunnel, TwoOwners, NoFamily, NotListed, Dropped}
use Rattle.fabric_ways.specs.declared.member.Member.{Member}

-- ---- one segment

-- the remotes that it floods to
abbrev pub flood : Member → Entries
flood X = X.flood.value.items

-- the UDP port of its endpoint's tunnels of a kind
abbrev pub port_of : Member → Tunnel → ℕ
port_of X Vxlan = X.vxlan_port
port_of X Geneve = X.geneve_port

-- where packets to an address come from: the own address of its family
abbrev pub source : Own → Addr → Option Addr
source own (V4 b) = option_map (λ octets. V4 octets) own.ip4
source own (V6 b) = option_map (λ octets. V6 octets) own.ip6

-- a packet over IPv6 without a checksum
abbrev pub sends_no_sum : Member → Addr → Bool
sends_no_sum X (V4 b) = false
sends_no_sum X (V6 b) = not X.sum6

-- ---- two segments X and Y

-- both have a tunnel of a kind, with one VNI
abbrev pub shares : Member → Tunnel → Member → Bool
shares X kind Y = option_map_or (λ t. option_map_or (λ u. t.vni == u.vni) (of_kind kind Y.tunnels) false) (of_kind kind X.tunnels) false

-- what an entry sends may come to Y: it is for an own address of Y's endpoint, or for a group
abbrev pub aims : Remote → Member → Bool
aims e Y = is_own Y.own e.addr || is_group e.addr

-- the remote from which a packet comes is on Y's flood list
abbrev pub knows : Member → Tunnel → Option Addr → Bool
knows Y kind from = option_map_or (holds (flood Y) kind) from false

-- why Y drops what X sends by an entry, the first that holds
abbrev pub faults : Member → Remote → Member → List (Reason × Bool)
faults X e Y =
    let from = source X.own e.addr in
    (BadOuterSource, option_map_or (is_own Y.own) from false)
    ∷ (NotTunnel, not (port_of X e.tunnel == port_of Y e.tunnel))
    ∷ (ZeroSum, sends_no_sum X e.addr && not Y.zero6)
    ∷ (UnknownVni, not (shares X e.tunnel Y))
    ∷ (WrongGroup, is_group e.addr && not (holds (flood Y) e.tunnel e.addr))
    ∷ (UnknownPeer, Y.listed && not (knows Y e.tunnel from))
    ∷ []

abbrev pub outcome : Member → Remote → Member → Option Reason
outcome X e Y = first (faults X e Y)

-- what X sends by an entry comes to Y
abbrev pub comes : Member → Remote → Member → Bool
comes X e Y = aims e Y && is_none (outcome X e Y)

-- what X sends by an entry comes to Y in a tunnel of a kind
abbrev pub hops_by : Member → Tunnel → Member → Remote → Bool
hops_by X kind Y e = same_kind e.tunnel kind && comes X e Y

-- what X floods comes to Y in a tunnel of a kind
abbrev pub hops : Member → Tunnel → Member → Bool
hops X kind Y = list_any (hops_by X kind Y) (flood X)

-- what X floods comes to Y
abbrev pub is_straight : Member → Member → Bool
is_straight X Y = list_any (λ e. comes X e Y) (flood X)

-- ---- the answer

-- why the answer to what came by an entry is lost: where Y learns it goes back to where the broadcast came from, and else it is flooded
abbrev pub lost_back : Member → Remote → Member → Option Hole
lost_back X e Y =
    if Y.learns
    then option_and_then (λ from. option_map (λ reason. Dropped reason) (outcome Y (record { tunnel = e.tunnel; addr = from }) X)) (source X.own e.addr)
    else if is_straight Y X then None else Some NotListed

-- an entry by which X comes to Y, and else the one before
abbrev pub or_before : Member → Member → Option Remote → Remote → Option Remote
or_before X Y last e = if comes X e Y then Some e else last

-- the last entry of a list by which X comes to Y
abbrev pub last_straight : Member → Member → Entries → Option Remote
last_straight X Y entries = fold (or_before X Y) None entries

-- why the answer is lost: by the last entry by which X comes straight to Y. Over a gateway it is taken to come
abbrev pub unanswered : Member → Member → Option Hole
unanswered X Y = option_and_then (λ e. lost_back X e Y) (last_straight X Y (flood X))

-- ---- why nothing comes

-- their endpoints have an own address in common
abbrev pub is_one_owner : Own → Own → Bool
is_one_owner a b = option_map_or (is_there b.ip4) a.ip4 false || option_map_or (is_there b.ip6) a.ip6 false

-- their endpoints have addresses of one family
abbrev pub is_one_family : Own → Own → Bool
is_one_family a b = is_some a.ip4 && is_some b.ip4 || is_some a.ip6 && is_some b.ip6

-- the later of two reasons in the order of checks
abbrev pub later : Option Reason → Option Reason → Option Reason
later None b = b
later (Some a) None = Some a
later (Some a) (Some b) = if nat_lt (number_of a) (number_of b) then Some b else Some a

-- what one entry more adds to how far broadcasts get
abbrev pub farther : Member → Member → Option Reason → Remote → Option Reason
farther X Y far e = if shares X e.tunnel Y && aims e Y then later far (outcome X e Y) else far

-- the reason of the broadcast that gets furthest, of those by a list
abbrev pub furthest : Member → Member → Entries → Option Reason
furthest X Y entries = fold (farther X Y) None entries

-- why nothing comes of X to Y
abbrev pub hole : Member → Member → Hole
hole X Y =
    if not (shares X Vxlan Y || shares X Geneve Y) then NoTunnel
    else if is_one_owner X.own Y.own then TwoOwners
    else option_map_or (λ reason. Dropped reason) (furthest X Y (flood X)) (if is_one_family X.own Y.own then NotListed else NoFamily)
