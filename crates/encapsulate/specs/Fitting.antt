-- The rule on sizes, as one on whole packets. It states no standard.
use Rattle.std.specs.Prelude.{◌≡◌, ◌<◌, ◌↔◌, ℕ, ◌+◌, length, Some}
use Rattle.wire.specs.Frame.{Frame, IsFrame}
use Rattle.wire.specs.declared.ether.reason.Reason.TheVariants.{TooBig}
use Rattle.wire.specs.declared.ip_udp.addr.Addr.{Addr}
use Rattle.wire.specs.declared.ip_udp.addr.Tunnel.{Tunnel}
use Rattle.wire.specs.Addr.{IsAddr}
use Rattle.overlay.specs.declared.underlay.tunnels.SegmentTunnel.{SegmentTunnel}
use Rattle.overlay.specs.Overlay.{Overlay, tunnel_at}
use Rattle.encapsulate.specs.Sender.{own_addr, IsUnderlay}
use Rattle.encapsulate.specs.Remote.{admits, remote_text}

-- a frame is TooBig exactly where its outer IP packet, which stands behind an Ethernet header of 14 octets, is longer than the
-- MTU
abbrev pub TooBigAboveTheMtu : Type 0
TooBigAboveTheMtu =
    (S : Overlay) (vid : ℕ) (kind : Tunnel) (t : SegmentTunnel) (a c : Addr) (f : Frame)
    → IsUnderlay S.underlay → tunnel_at S vid kind ≡ Some t → IsAddr a → own_addr S.underlay a ≡ Some c → IsFrame f
    → (admits S vid a f ≡ Some TooBig) ↔ (14 + S.underlay.mtu < length (remote_text S vid kind a f))
