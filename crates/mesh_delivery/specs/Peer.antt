-- What one endpoint sends to another arrives there. It states no standard.
use Rattle.std.specs.Prelude.{◌≡◌, ◌⊎◌, ℕ, true, false, length, Some, None, Ok}
use Rattle.wire.specs.Address.{is_group as is_group_mac, is_reserved}
use Rattle.wire.specs.Frame.{Frame, IsFrame}
use Rattle.wire.specs.Tag.{begins_tag}
use Rattle.wire.specs.declared.ip_udp.addr.Addr.{Addr}
use Rattle.wire.specs.declared.ip_udp.addr.Addr.TheVariants.{V4, V6}
use Rattle.wire.specs.declared.ip_udp.addr.Tunnel.{Tunnel}
use Rattle.wire.specs.Addr.{IsAddr, is_group}
use Rattle.wire.specs.Vxlan.{IsVni}
use Rattle.overlay.specs.declared.underlay.segment.Segment.{Segment}
use Rattle.overlay.specs.declared.underlay.settings.Underlay.{Underlay}
use Rattle.overlay.specs.declared.underlay.tunnels.SegmentTunnel.{SegmentTunnel}
use Rattle.overlay.specs.Overlay.{Overlay, tunnel_at, segment_by, floods, is_listed, drops_tags}
use Rattle.overlay.specs.UnderlaySettings.{is_own, port_of}
use Rattle.decapsulate.specs.Arrival.{arrival_of}
use Rattle.encapsulate.specs.Remote.{admits, remote_text}
use Rattle.encapsulate.specs.Sender.{own_addr, IsUnderlay}

-- S lets a frame of its segment with this VID out to address a, from its own address c, in the segment's tunnel t of a kind:
-- a frame with an individual source, and a destination that a bridge forwards
pub record Sends (S : Overlay) (vid : ℕ) (kind : Tunnel) (t : SegmentTunnel) (a c : Addr) (f : Frame) : Type 0 where
  pub settings : IsUnderlay S.underlay
  pub tunnel : tunnel_at S vid kind ≡ Some t
  pub vni : IsVni t.vni
  pub is_addr : IsAddr a
  pub from : own_addr S.underlay a ≡ Some c
  pub is_frame : IsFrame f
  pub individual : is_group_mac f.src ≡ false
  pub unreserved : is_reserved f.dst ≡ false
  pub admitted : admits S vid a f ≡ None

-- over IPv6 the sender computes the checksum, or the peer takes packets without one
abbrev pub SumServes : Underlay → Underlay → Addr → Type 0
SumServes U V (V4 b) = Unit {0}
SumServes U V (V6 b) = (U.sum6 ≡ true) ⊎ (V.zero6 ≡ true)

-- R is at address a and lets the sender in: it has a segment h, of VID w, for the tunnel's kind and VNI, and the sender's port
-- for the kind; a is its own address, or that of a group on the segment's flood list; the sender's address c isn't its own,
-- and is one that the segment takes; the body doesn't begin with a tag, or the segment passes them
pub record Receives (R S : Overlay) (w : ℕ) (h : Segment) (kind : Tunnel) (t : SegmentTunnel) (a c : Addr) (f : Frame) : Type 0 where
  pub settings : IsUnderlay R.underlay
  pub segment : segment_by R kind t.vni ≡ Some (w, h)
  pub port : port_of R.underlay kind ≡ port_of S.underlay kind
  pub to : (is_own R.underlay a ≡ true) ⊎ ((is_group a ≡ true) × (floods h kind a ≡ true))
  pub from : is_own R.underlay c ≡ false
  pub rule : (is_listed h ≡ false) ⊎ (floods h kind c ≡ true)
  pub tags : (begins_tag f.body ≡ false) ⊎ (drops_tags h ≡ false)
  pub sum : SumServes S.underlay R.underlay a

-- then the packet, whole, brings the frame from the sender's address into the segment, with priority 0: a tunnel carries none
abbrev pub PeerGetsTheFrame : Type 0
PeerGetsTheFrame =
    (S R : Overlay) (vid w : ℕ) (h : Segment) (kind : Tunnel) (t : SegmentTunnel) (a c : Addr) (f : Frame)
    → Sends S vid kind t a c f → Receives R S w h kind t a c f
    → let packet = remote_text S vid kind a f in
    arrival_of R (length packet) packet
    ≡ Ok (record { vid = w; from = (kind, c); frame = record f { pcp = 0; dei = false } })
