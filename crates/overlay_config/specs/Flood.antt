-- The items of `segment.k.flood`. It states no standard.
use Rattle.std.specs.Prelude.{ℕ, [], ◌∷◌, ◌++◌, nat_le, Bool, ◌||◌, is_some, is_none, if◌then◌else◌, Option, Some, None, option_and_then}
use Rattle.toml.specs.Data.{Data}
use Rattle.wire.specs.declared.ip_udp.addr.Addr.{Addr}
use Rattle.wire.specs.declared.ip_udp.addr.Tunnel.{Tunnel}
use Rattle.overlay.specs.declared.flood.own.Own.{Own}
use Rattle.overlay.specs.First.{first}
use Rattle.overlay.specs.Flood.{Entries, add_faults, is_wide}
use Rattle.config_text.specs.Column.{any_addr}

-- a flood list of so many remotes at most with one more, where the list takes it
abbrev pub with_remote : Own → ℕ → Tunnel → Entries → Addr → Option Entries
with_remote own most kind flood addr =
    if is_none (first (add_faults own most flood kind addr)) then Some (flood ++ record { tunnel = kind; addr = addr } ∷ []) else None

-- a list with the remote that a value tells
abbrev pub put_remote : Own → ℕ → Tunnel → Entries → Data → Option Entries
put_remote own most kind flood d = option_and_then (with_remote own most kind flood) (any_addr d)

-- a list of so many at most is filled without memory: all of them stand in it, a room lies there for it, or it has its room
abbrev pub is_roomy : ℕ → Entries → Option ℕ → Bool
is_roomy most flood room = nat_le most 16 || (is_some room || is_wide flood)
