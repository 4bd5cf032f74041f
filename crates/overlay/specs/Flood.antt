-- Flood lists, and the endpoint's own addresses. It states no standard.
use Rattle.std.specs.Prelude.{◌≢◌, ℕ, Bool, false, not, ◌&&◌, ◌||◌, ◌==◌, nat_le, nat_lt, is_some, List, [], ◌∷◌}
use Rattle.std.specs.Prelude.{length, min, filter, replicate, Option, None, Some}
use Rattle.std.specs.List.{AllPairs, list_any}
use Rattle.wire.specs.Octets.{is_same}
use Rattle.wire.specs.declared.ip_udp.addr.Addr.{Addr}
use Rattle.wire.specs.declared.ip_udp.addr.Addr.TheVariants.{V4, V6}
use Rattle.wire.specs.declared.ip_udp.addr.Tunnel.{Tunnel}
use Rattle.wire.specs.declared.ip_udp.addr.Tunnel.TheVariants.{Vxlan}
use Rattle.overlay.specs.Addr.{address, is_usable, same_addr, same_kind}
use Rattle.overlay.specs.declared.flood.fault.FloodFault.{FloodFault}
use Rattle.overlay.specs.declared.flood.fault.FloodFault.TheVariants.{OutOfRange, NoFamily, OwnAddress, AlreadyThere, FloodFull}
use Rattle.overlay.specs.declared.flood.own.Own.{Own}
use Rattle.overlay.specs.declared.flood.remote.Remote.{Remote}

-- ---- own addresses

-- the own address of the family of an address, where there is one
abbrev pub own_of : Own → Addr → Option (List ℕ)
own_of own (V4 octets) = own.ip4
own_of own (V6 octets) = own.ip6

-- there is an own address of the family
abbrev pub has_family : Own → Addr → Bool
has_family own addr = is_some (own_of own addr)

-- these octets are there
abbrev pub is_there : Option (List ℕ) → List ℕ → Bool
is_there None octets = false
is_there (Some own) octets = is_same own octets

-- an address is one's own
abbrev pub is_own : Own → Addr → Bool
is_own own addr = is_there (own_of own addr) (address addr)

-- ---- lists

-- the remote endpoints that frames are flooded to: tunnel kinds and addresses, in the order in which they were added
abbrev pub Entries : Type 0
Entries = List Remote

-- what fills the places of a list that hold no entry
abbrev pub blank : Remote
blank = record { tunnel = Vxlan; addr = V4 (replicate 4 0) }

-- no entry is the same as a later one
abbrev pub IsWithoutRepeats : Entries → Type 0
IsWithoutRepeats flood = AllPairs (λ entry later. entry ≢ later) flood

-- an entry is this tunnel's to this address
abbrev pub is_entry : Tunnel → Addr → Remote → Bool
is_entry tunnel addr entry = same_kind entry.tunnel tunnel && same_addr entry.addr addr

-- a list has this entry
abbrev pub holds : Entries → Tunnel → Addr → Bool
holds flood tunnel addr = list_any (is_entry tunnel addr) flood

-- the list without an entry, the others in their order
abbrev pub without : Entries → Tunnel → Addr → Entries
without flood tunnel addr = filter (λ entry. not (is_entry tunnel addr entry)) flood

-- ---- room

-- a list has more than 16 entries, so it has a room
abbrev pub is_wide : Entries → Bool
is_wide flood = nat_lt 16 (length flood)

-- a list takes one entry more without memory: one of 16 has a room beside it
abbrev pub room_for_one : Entries → Option ℕ → Bool
room_for_one flood room = not (length flood == 16) || is_some room

-- a list of at most so many takes entries without memory
abbrev pub has_room : ℕ → Entries → Option ℕ → Bool
has_room most flood room = nat_le most 16 || room_for_one flood room

-- ---- why an entry isn't added, in the order of the checks

-- an address that no packet can be sent to, one of a family without an own address, an entry that is there, or a list that has as many as
-- its limit says, or 512
abbrev pub add_faults : Own → ℕ → Entries → Tunnel → Addr → List (FloodFault × Bool)
add_faults own most flood tunnel addr =
    (OutOfRange, not (is_usable addr))
    ∷ (NoFamily, not (has_family own addr))
    ∷ (OwnAddress, is_own own addr)
    ∷ (AlreadyThere, holds flood tunnel addr)
    ∷ (FloodFull, nat_le (min most 512) (length flood))
    ∷ []
