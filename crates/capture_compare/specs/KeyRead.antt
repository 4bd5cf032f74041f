-- What a packet carries, read back from its key. It states no standard.
use Rattle.std.specs.Prelude.{ℕ, ◌==◌, nat_le, if◌then◌else◌, List, [], ◌∷◌, length, take, drop, Option, Some, None}
use Rattle.wire.specs.Octets.{number}
use Rattle.wire.specs.declared.ip_udp.addr.Addr.{Addr}
use Rattle.wire.specs.declared.ip_udp.addr.Addr.TheVariants.{V4, V6}
use Rattle.wire.specs.declared.ip_udp.addr.Tunnel.{Tunnel}
use Rattle.wire.specs.declared.ip_udp.addr.Tunnel.TheVariants.{Vxlan, Geneve}
use Rattle.capture_compare.specs.Tunnelled.{Tunnelled}

-- the kind that has this mark
abbrev pub kind_by : ℕ → Option Tunnel
kind_by mark = if mark == 1 then Some Vxlan else (if mark == 2 then Some Geneve else None)

-- a part with its length in front, and what stands behind it
abbrev pub counted_split : List ℕ → Option (List ℕ × List ℕ)
counted_split [] = None
counted_split (n ∷ t) = if nat_le n (length t) then Some (take n t, drop n t) else None

-- the address of so many octets
abbrev pub addr_by : List ℕ → Option Addr
addr_by b = if length b == 4 then Some (V4 b) else (if length b == 16 then Some (V6 b) else None)

abbrev pub addr_in : Option Addr → List ℕ → Option (Addr × List ℕ)
addr_in None t = None
addr_in (Some addr) t = Some (addr, t)

abbrev pub addr_of : Option (List ℕ × List ℕ) → Option (Addr × List ℕ)
addr_of None = None
addr_of (Some p) = addr_in (addr_by p.0) p.1

-- an address with its length in front, and what stands behind it
abbrev pub addr_split : List ℕ → Option (Addr × List ℕ)
addr_split t = addr_of (counted_split t)

-- three octets of a VNI, and what stands behind them
abbrev pub vni_split : List ℕ → Option (ℕ × List ℕ)
vni_split t = if nat_le 3 (length t) then Some (number (take 3 t), drop 3 t) else None

-- what is carried, by what was read before and by what stands behind
abbrev pub with_options : Tunnel → Addr → Addr → ℕ → Option (List ℕ × List ℕ) → Option Tunnelled
with_options kind source destination vni None = None
with_options kind source destination vni (Some p) =
    if nat_le (length p.0) 252
    then Some (record {
      kind = kind;
      source = source;
      destination = destination;
      vni = vni;
      options = p.0;
      inner = p.1;
    })
    else None

abbrev pub with_vni : Tunnel → Addr → Addr → Option (ℕ × List ℕ) → Option Tunnelled
with_vni kind source destination None = None
with_vni kind source destination (Some p) = with_options kind source destination p.0 (counted_split p.1)

abbrev pub with_destination : Tunnel → Addr → Option (Addr × List ℕ) → Option Tunnelled
with_destination kind source None = None
with_destination kind source (Some p) = with_vni kind source p.0 (vni_split p.1)

abbrev pub with_source : Tunnel → Option (Addr × List ℕ) → Option Tunnelled
with_source kind None = None
with_source kind (Some p) = with_destination kind p.0 (addr_split p.1)

-- what stands behind the mark of a kind
abbrev pub read_behind : Tunnel → List ℕ → Option Tunnelled
read_behind kind t = with_source kind (addr_split t)

abbrev pub read_by : Option Tunnel → List ℕ → Option Tunnelled
read_by None t = None
read_by (Some kind) t = read_behind kind t

-- what a key tells; the law of specs/Laws says what that is
abbrev pub key_read : List ℕ → Option Tunnelled
key_read [] = None
key_read (mark ∷ t) = read_by (kind_by mark) t
