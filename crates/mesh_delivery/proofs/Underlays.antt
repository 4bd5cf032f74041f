-- The underlay of settings that keep to the rules is one with which what is sent arrives.
use Rattle.std.proofs.Common.{◌≡◌, ℕ, ◌^◌, ◌≤◌, ◌<◌, List, length, Option, Some, None, refl, sym, arith}
use Rattle.std.specs.Prelude.{IfSome}
use Rattle.std.specs.FinMap.{get}
use Rattle.std.proofs.lemmas.Bool.{eqb-false}
use Rattle.wire.specs.declared.ip_udp.addr.Addr.{Addr}
use Rattle.wire.specs.declared.ip_udp.addr.Addr.TheVariants.{V4, V6}
use Rattle.overlay.specs.declared.underlay.settings.Underlay.{Underlay}
use Rattle.overlay.specs.Rules as rules
use Rattle.encapsulate.specs.Sender.{IsOwnAddr, IsUnderlay}

own-addr : (a : Addr) → rules.IsEndpoint a → IsOwnAddr a
own-addr a is = record { is_addr = is.is_addr; usable = is.usable; unicast = is.unicast }

own4 : (o : Option (List ℕ)) → IfSome o (λ b. rules.IsEndpoint (V4 b)) → IfSome o (λ b. IsOwnAddr (V4 b))
own4 None is = tt
own4 (Some b) is = own-addr (V4 b) is

own6 : (o : Option (List ℕ)) → IfSome o (λ b. rules.IsEndpoint (V6 b)) → IfSome o (λ b. IsOwnAddr (V6 b))
own6 None is = tt
own6 (Some b) is = own-addr (V6 b) is

hop-length : (U : Underlay) → rules.AreHops U.hops → (a : List ℕ) → IfSome (get U.hops a) (λ mac. length mac ≡ 6)
hop-length U are a = by (get U.hops a) refl
  where
    by : (o : Option (List ℕ)) → get U.hops a ≡ o → IfSome o (λ mac. length mac ≡ 6)
    by None is = tt
    by (Some mac) is = (are a mac is).2.1.six

below : {n : ℕ} → n ≤ 65535 → n < 2 ^ 16
below h = omega arith

pub underlay-kept : (U : Underlay) → rules.IsUnderlay U → IsUnderlay U
underlay-kept U is = record {
  mac = is.mac.six;
  next_hop = is.next_hop.six;
  hops = hop-length U is.hops;
  ip4 = own4 U.ip4 is.ip4;
  ip6 = own6 U.ip6 is.ip6;
  mtu = below is.mtu.1;
  vxlan_port = below is.vxlan_port.1;
  geneve_port = below is.geneve_port.1;
  two_ports = λ e. eqb-false _ _ is.ports_apart (sym e);
}
