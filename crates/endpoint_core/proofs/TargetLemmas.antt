-- Tunnels and places that a change means.
use Rattle.std.proofs.Common.{◌≡◌, ℕ, Option, Some, None, Ok, ap, ◌∙◌}
use Rattle.wire.specs.declared.ip_udp.addr.Addr.{Addr}
use Rattle.wire.specs.declared.ip_udp.addr.Tunnel.{Tunnel}
use Rattle.overlay.specs.declared.flood.own.Own.{Own}
use Rattle.wire.specs.First.{first}
use Rattle.overlay.specs.declared.settings.change.Target.TheVariants as target
use Rattle.endpoint_core.specs.Settings.{SegmentSettings, kind_named}
use Rattle.endpoint_core.specs.Change.{in_segment, at_tunnel, addr_faults, target_fault}
use Rattle.endpoint_core.specs.Tunnel.{or_no_tunnel, tunnel_in}

-- a tunnel that is there is the one that is named
pub named-tunnel : (o : Option Tunnel) (kind : Tunnel) → Ok kind ≡ or_no_tunnel o → o ≡ Some kind
named-tunnel None kind h = absurd (cc)
named-tunnel (Some k) kind h = cc

-- of a segment that is there
pub named-in : (o : Option SegmentSettings) (s : SegmentSettings) (tunnel : Option Tunnel) (kind : Tunnel) → o ≡ Some s → Ok kind ≡ tunnel_in o tunnel → kind_named s.tunnels tunnel ≡ Some kind
named-in o s tunnel kind is h = named-tunnel (kind_named s.tunnels tunnel) kind (h ∙ ap (λ (x : Option SegmentSettings). tunnel_in x tunnel) is)

-- what is left to ask of a remote endpoint
pub target-named : (own : Own) (ports : ℕ) (o : Option SegmentSettings) (tunnel : Option Tunnel) (kind : Tunnel) (addr : Addr) → Ok kind ≡ tunnel_in o tunnel → in_segment o (λ s. target_fault own ports s.tunnels (target.Remote addr tunnel)) ≡ first (addr_faults own addr)
target-named own ports None tunnel kind addr h = absurd (cc)
target-named own ports (Some s) tunnel kind addr h = ap (λ (k : Option Tunnel). at_tunnel k (λ _. first (addr_faults own addr))) (named-tunnel (kind_named s.tunnels tunnel) kind h)
