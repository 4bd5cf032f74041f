-- The own address that a packet is sent from.
use Rattle.std.proofs.Common.{◌≡◌, ℕ, List, [], Option, Some, None, refl, ap, ◌∙◌, subst}
use Rattle.std.specs.Prelude.{IfSome}
use Rattle.std.specs.Option.{option_map, option_map_or}
use Rattle.wire.specs.Frame.{Frame}
use Rattle.wire.specs.declared.ip_udp.addr.Addr.{Addr}
use Rattle.wire.specs.declared.ip_udp.addr.Addr.TheVariants.{V4, V6}
use Rattle.wire.specs.declared.ip_udp.addr.Tunnel.{Tunnel}
use Rattle.overlay.specs.Flood.{own_of}
use Rattle.overlay.specs.declared.underlay.settings.Underlay.{Underlay}
use Rattle.overlay.specs.declared.underlay.tunnels.SegmentTunnel.{SegmentTunnel}
use Rattle.overlay.specs.Overlay.{Overlay, tunnel_at}
use Rattle.overlay.specs.UnderlaySettings.{own}
use Rattle.encapsulate.specs.Remote.{packet_from, remote_text}
use Rattle.encapsulate.specs.Sender.{own_addr, IsOwnAddr, IsUnderlay}

-- an own address is one that an endpoint can have
own4-is : (b : Option (List ℕ)) (c : Addr) → IfSome b (λ x. IsOwnAddr (V4 x)) → option_map V4 b ≡ Some c → IsOwnAddr c
own4-is None c h e = absurd cc
own4-is (Some x) c h e = let same : V4 x ≡ c = cc in subst IsOwnAddr same h

own6-is : (b : Option (List ℕ)) (c : Addr) → IfSome b (λ x. IsOwnAddr (V6 x)) → option_map V6 b ≡ Some c → IsOwnAddr c
own6-is None c h e = absurd cc
own6-is (Some x) c h e = let same : V6 x ≡ c = cc in subst IsOwnAddr same h

pub own-is : (U : Underlay) (a c : Addr) → IsUnderlay U → own_addr U a ≡ Some c → IsOwnAddr c
own-is U (V4 b) c s e = own4-is U.ip4 c s.ip4 e
own-is U (V6 b) c s e = own6-is U.ip6 c s.ip6 e

-- the packet that is sent, where the tunnel and the own address are known
pub packet-sent : (S : Overlay) (vid : ℕ) (kind : Tunnel) (t : SegmentTunnel) (a : Addr) (src : List ℕ) (f : Frame)
    → tunnel_at S vid kind ≡ Some t → own_of (own S.underlay) a ≡ Some src
    → remote_text S vid kind a f ≡ packet_from S.underlay kind t.vni src a f
packet-sent S vid kind t a src f there owned =
    ap (λ (o : Option SegmentTunnel). elim o as (λ _. List ℕ) [ Some tunnel ↦ option_map_or (λ x. packet_from S.underlay kind tunnel.vni x a f) (own_of (own S.underlay) a) [] | None ↦ [] ]) there
    ∙ ap (λ (o : Option (List ℕ)). option_map_or (λ x. packet_from S.underlay kind t.vni x a f) o []) owned

-- the octets of the own address
abbrev pub OwnOctets : Option (List ℕ) → (List ℕ → Addr) → Addr → Type 0
OwnOctets o family c = (src : List ℕ) × (o ≡ Some src) × (family src ≡ c)

pub own-octets : (o : Option (List ℕ)) (family : List ℕ → Addr) (c : Addr) → option_map family o ≡ Some c → OwnOctets o family c
own-octets None family c e = absurd cc
own-octets (Some src) family c e = (src, refl, cc)
