-- A frame is too big exactly where its packet is longer than the MTU.
use Rattle.std.proofs.Common.{◌≡◌, ℕ, ◌+◌, ◌<◌, ◌≤◌, Bool, true, false, ◌&&◌, ltb, List, [], ◌∷◌, length, Some, refl, sym, ap, ◌∙◌, subst, arith, inl, inr}
use Rattle.std.proofs.lemmas.Bool.{cases_Bool, ltb-true, ltb-false}
use Rattle.wire.specs.First.{first}
use Rattle.wire.specs.Frame.{Frame, IsFrame, size}
use Rattle.wire.specs.Tag.{begins_tag}
use Rattle.wire.specs.declared.ether.reason.Reason.TheVariants.{TooBig, InnerTagOut}
use Rattle.wire.proofs.FirstLemmas.{first-here}
use Rattle.wire.specs.declared.ip_udp.addr.Addr.{Addr}
use Rattle.wire.specs.declared.ip_udp.addr.Addr.TheVariants.{V4, V6}
use Rattle.wire.specs.declared.ip_udp.addr.Tunnel.{Tunnel}
use Rattle.wire.specs.Addr.{IsAddr}
use Rattle.overlay.specs.Flood.{own_of}
use Rattle.overlay.specs.declared.underlay.settings.Underlay.{Underlay}
use Rattle.overlay.specs.declared.underlay.tunnels.SegmentTunnel.{SegmentTunnel}
use Rattle.overlay.specs.Overlay.{Overlay, tunnel_at}
use Rattle.overlay.specs.UnderlaySettings.{own, port_of}
use Rattle.encapsulate.specs.Flow.{source_port}
use Rattle.encapsulate.specs.Packet.{tunnelled}
use Rattle.encapsulate.specs.Remote.{largest, drops_tags_at, admits, packet_from, remote_text}
use Rattle.encapsulate.specs.Sender.{own_addr, IsOwnAddr, IsUnderlay}
use Rattle.encapsulate.specs.Fitting.{TooBigAboveTheMtu}
use Rattle.encapsulate.proofs.Sending.{length-tunnelled, length-packet4, length-packet6}
use Rattle.encapsulate.proofs.SenderLemmas.{own-is, own-octets, packet-sent}

-- the octets of the headers in front of a frame
abbrev headers : Addr → ℕ
headers (V4 b) = 50
headers (V6 b) = 70

-- by the packet from the own address of these octets
length-by : (S : Overlay) (vid : ℕ) (kind : Tunnel) (t : SegmentTunnel) (a : Addr) (src : List ℕ) (f : Frame) (n : ℕ)
    → tunnel_at S vid kind ≡ Some t → own_of (own S.underlay) a ≡ Some src → IsFrame f
    → length (packet_from S.underlay kind t.vni src a f) ≡ n + length (tunnelled kind t.vni f) → length (remote_text S vid kind a f) ≡ 8 + n + size f
length-by S vid kind t a src f n there owned h long =
    let len : length (remote_text S vid kind a f) ≡ n + length (tunnelled kind t.vni f) = ap (λ (b : List ℕ). length b) (packet-sent S vid kind t a src f there owned) ∙ long in
    omega (arith, len, length-tunnelled kind t.vni f h)

length-text : (S : Overlay) (vid : ℕ) (kind : Tunnel) (t : SegmentTunnel) (a c : Addr) (f : Frame)
    → IsUnderlay S.underlay → tunnel_at S vid kind ≡ Some t → IsAddr a → own_addr S.underlay a ≡ Some c → IsFrame f
    → length (remote_text S vid kind a f) ≡ headers a + size f
length-text S vid kind t (V4 dst) c f s there is_addr from h =
    let U = S.underlay in
    let o = own-octets U.ip4 V4 c from in
    let owned : IsOwnAddr (V4 o.0) = subst IsOwnAddr (sym o.2) (own-is U (V4 dst) c s from) in
    length-by S vid kind t (V4 dst) o.0 f 42 there o.1 h (length-packet4 U o.0 dst (source_port f) (port_of U kind) (tunnelled kind t.vni f) s is_addr owned.is_addr.0)
length-text S vid kind t (V6 dst) c f s there is_addr from h =
    let U = S.underlay in
    let o = own-octets U.ip6 V6 c from in
    let owned : IsOwnAddr (V6 o.0) = subst IsOwnAddr (sym o.2) (own-is U (V6 dst) c s from) in
    length-by S vid kind t (V6 dst) o.0 f 62 there o.1 h (length-packet6 U o.0 dst (source_port f) (port_of U kind) (tunnelled kind t.vni f) s is_addr owned.is_addr.0)

above : (U : Underlay) (a : Addr) (n : ℕ) → largest U a < n → 14 + U.mtu < headers a + n
above U (V4 b) n h = omega (arith, h)
above U (V6 b) n h = omega (arith, h)

not_above : (U : Underlay) (a : Addr) (n : ℕ) → n ≤ largest U a → 0 < n → headers a + n ≤ 14 + U.mtu
not_above U (V4 b) n h some = omega (arith, h)
not_above U (V6 b) n h some = omega (arith, h)

-- a tag is no size
tag_alone : (b : Bool) → ¬ (first ((InnerTagOut, b) ∷ []) ≡ Some TooBig)
tag_alone true e = absurd cc
tag_alone false e = absurd cc

row : (b c : Bool) → first ((TooBig, b) ∷ (InnerTagOut, c) ∷ []) ≡ Some TooBig → b ≡ true
row true c e = refl
row false c e = absurd (tag_alone c e)

pub fitting : TooBigAboveTheMtu
fitting S vid kind t a c f s there is_addr from h =
    let n = size f in
    let big = ltb (largest S.underlay a) n in
    let len = length-text S vid kind t a c f s there is_addr from h in
    let text = remote_text S vid kind a f in
    let forth : admits S vid a f ≡ Some TooBig → 14 + S.underlay.mtu < length text =
    λ e. omega (arith, above S.underlay a n (ltb-true (largest S.underlay a) n (row big (begins_tag f.body && drops_tags_at S vid) e)), len) in
    let back : 14 + S.underlay.mtu < length text → admits S vid a f ≡ Some TooBig =
    λ more. elim (cases_Bool big) [
      | inl yes_big ↦ first-here TooBig big ((InnerTagOut, begins_tag f.body && drops_tags_at S vid) ∷ []) yes_big
      | inr small ↦ absurd (omega (arith, not_above S.underlay a n (ltb-false (largest S.underlay a) n small) (omega arith), len))
    ] in
    (forth, back)
