-- What is sent fits into a record of a capture.
use Rattle.std.proofs.Common.{◌≡◌, refl, ℕ, ◌≤◌, arith, List, [], ◌++◌, length, length-append, Option, Some, None, Result, Ok, Err, IfOk}
use Rattle.std.specs.Prelude.{IfSome}
use Rattle.std.specs.Option.{option_map_or}
use Rattle.wire.specs.Frame.{Frame, plain}
use Rattle.wire.specs.Tag.{tag_text, tci_of}
use Rattle.wire.specs.declared.ether.reason.Reason.{Reason}
use Rattle.wire.specs.Addr.{IsAddr}
use Rattle.wire.specs.declared.ip_udp.addr.Addr.{Addr}
use Rattle.wire.specs.declared.ip_udp.addr.Addr.TheVariants.{V4, V6}
use Rattle.wire.specs.declared.ip_udp.addr.Tunnel.{Tunnel}
use Rattle.wire.specs.declared.ip_udp.addr.Tunnel.TheVariants.{Geneve, Vxlan}
use Rattle.filter_db.specs.declared.place.Place.{Place}
use Rattle.filter_db.specs.declared.place.Place.TheVariants.{Local, Remote}
use Rattle.overlay.specs.Ports.{Ports, egress_at}
use Rattle.overlay.specs.declared.ports.member.Egress.{Egress}
use Rattle.overlay.specs.declared.ports.member.Egress.TheVariants.{Tagged, Untagged}
use Rattle.overlay.specs.Overlay.{Overlay, tunnel_at}
use Rattle.overlay.specs.UnderlaySettings.{own, port_of}
use Rattle.overlay.specs.declared.underlay.settings.Underlay.{Underlay}
use Rattle.overlay.specs.declared.underlay.tunnels.SegmentTunnel.{SegmentTunnel}
use Rattle.encapsulate.specs.Emission.{local_text}
use Rattle.encapsulate.specs.Flow.{source_port}
use Rattle.encapsulate.specs.Packet.{tunnel_header, tunnelled}
use Rattle.encapsulate.specs.Remote.{admits, packet_from, remote_text, sending}
use Rattle.encapsulate.specs.Sender.{IsOwnAddr, IsUnderlay}
use Rattle.encapsulate.proofs.Sending.{length-packet4, length-packet6}
use Rattle.endpoint_core.specs.Arrival.{emitted}
use Rattle.part_files.proofs.Remotes.{IsFar}

-- a frame of no more octets than a packet has
pub record IsShortFrame (f : Frame) : Type 0 where
  pub dst : length f.dst ≡ 6
  pub src : length f.src ≡ 6
  pub body : length f.body ≤ 65549

-- octets that a record can hold
abbrev pub Fits : List ℕ → Type 0
Fits octets = length octets ≤ 262144

plain-short : (f : Frame) → IsShortFrame f → length (plain f) ≤ 65561
plain-short f is = omega (arith, length-append f.dst (f.src ++ f.body), length-append f.src f.body, is.dst, is.src, is.body)

-- ---- at a local port

local-short : (vid : ℕ) (egress : Egress) (f : Frame) → IsShortFrame f → Fits (local_text vid egress f)
local-short vid Untagged f is = omega (arith, plain-short f is)
local-short vid Tagged f is =
    let tag = tag_text (tci_of f.pcp f.dei vid) in
    omega (arith, length-append f.dst (f.src ++ (tag ++ f.body)), length-append f.src (tag ++ f.body), length-append tag f.body, is.dst, is.src, is.body)

-- ---- to a remote endpoint

head-length : (kind : Tunnel) (vni : ℕ) → length (tunnel_header kind vni) ≡ 8
head-length Vxlan vni = refl
head-length Geneve vni = refl

data-short : (kind : Tunnel) (vni : ℕ) (f : Frame) → IsShortFrame f → length (tunnelled kind vni f) ≤ 65569
data-short kind vni f is = omega (arith, length-append (tunnel_header kind vni) (plain f), head-length kind vni, plain-short f is)

-- the packet, where there is a tunnel and an own address
abbrev text_by : Underlay → Tunnel → Addr → Frame → Option SegmentTunnel → Option (List ℕ) → List ℕ
text_by U kind a f t o = elim t as (λ _. List ℕ) [ Some tunnel ↦ option_map_or (λ src. packet_from U kind tunnel.vni src a f) o [] | None ↦ [] ]

by-short : (U : Underlay) (kind : Tunnel) (a : Addr) (f : Frame) (P : List ℕ → Type 0) → ((t : SegmentTunnel) (src : List ℕ) → P src → Fits (packet_from U kind t.vni src a f))
    → (t : Option SegmentTunnel) (o : Option (List ℕ)) → IfSome o P → Fits (text_by U kind a f t o)
by-short U kind a f P short None o own = omega arith
by-short U kind a f P short (Some t) None own = omega arith
by-short U kind a f P short (Some t) (Some src) own = short t src own

packet4-short : (U : Underlay) (kind : Tunnel) (dst : List ℕ) (f : Frame) → IsUnderlay U → IsAddr (V4 dst) → IsShortFrame f → (t : SegmentTunnel) (src : List ℕ) → IsOwnAddr (V4 src) → Fits (packet_from U kind t.vni src (V4 dst) f)
packet4-short U kind dst f s a is t src own =
    omega (arith, length-packet4 U src dst (source_port f) (port_of U kind) (tunnelled kind t.vni f) s a own.is_addr.0, data-short kind t.vni f is)

packet6-short : (U : Underlay) (kind : Tunnel) (dst : List ℕ) (f : Frame) → IsUnderlay U → IsAddr (V6 dst) → IsShortFrame f → (t : SegmentTunnel) (src : List ℕ) → IsOwnAddr (V6 src) → Fits (packet_from U kind t.vni src (V6 dst) f)
packet6-short U kind dst f s a is t src own =
    omega (arith, length-packet6 U src dst (source_port f) (port_of U kind) (tunnelled kind t.vni f) s a own.is_addr.0, data-short kind t.vni f is)

remote-short : (O : Overlay) (vid : ℕ) (kind : Tunnel) (a : Addr) (f : Frame) → IsUnderlay O.underlay → IsAddr a → IsShortFrame f → Fits (remote_text O vid kind a f)
remote-short O vid kind (V4 dst) f s a is =
    by-short O.underlay kind (V4 dst) f (λ src. IsOwnAddr (V4 src)) (packet4-short O.underlay kind dst f s a is) (tunnel_at O vid kind) O.underlay.ip4 s.ip4
remote-short O vid kind (V6 dst) f s a is =
    by-short O.underlay kind (V6 dst) f (λ src. IsOwnAddr (V6 src)) (packet6-short O.underlay kind dst f s a is) (tunnel_at O vid kind) O.underlay.ip6 s.ip6

sending-short : (O : Overlay) (vid : ℕ) (kind : Tunnel) (a : Addr) (f : Frame) → IsUnderlay O.underlay → IsAddr a → IsShortFrame f → IfOk (sending O vid kind a f) Fits
sending-short O vid kind a f s addr is = by (admits O vid a f)
  where
    by : (o : Option Reason) → IfOk (elim o as (λ _. Result (List ℕ) Reason) [ Some reason ↦ Err reason | None ↦ Ok (remote_text O vid kind a f) ]) Fits
    by (Some reason) = tt
    by None = remote-short O vid kind a f s addr is

-- ---- at any place

pub emitted-short : (ports : Ports) (O : Overlay) (vid : ℕ) (f : Frame) (place : Place) → IsUnderlay O.underlay → IsFar place → IsShortFrame f → IfOk (emitted ports O vid f place) Fits
unfolding emitted
emitted-short ports O vid f (Local port) s far is = by (egress_at ports vid port)
  where
    by : (o : Option Egress) → Fits (option_map_or (λ egress. local_text vid egress f) o [])
    by None = omega arith
    by (Some egress) = local-short vid egress f is
emitted-short ports O vid f (Remote kind addr) s far is = sending-short O vid kind addr f s far is
