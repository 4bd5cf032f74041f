-- What a tunnel header stands before. It states no standard.
use Rattle.std.specs.Prelude.{ℕ, List}
use Rattle.wire.specs.declared.ip_udp.addr.Tunnel.{Tunnel}

-- the kind of the tunnel, the network's number in it, and the text behind the header
pub record Carried : Type 0 where
  pub kind : Tunnel
  pub vni : ℕ
  pub inner : List ℕ
