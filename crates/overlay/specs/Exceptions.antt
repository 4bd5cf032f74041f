-- Exceptions from the next hop. It states no standard.
use Rattle.std.specs.Prelude.{ℕ, List}
use Rattle.wire.specs.Addr.{address}
use Rattle.overlay.specs.declared.underlay.hops.Hop.{Hop}

-- the octets of its address, and the MAC address to send to
abbrev pub exception : Hop → List ℕ × List ℕ
exception h = (address h.addr, h.mac)
