-- What one endpoint sends to another arrives there.
use Rattle.std.proofs.Common.{◌≡◌, ◌≢◌, ℕ, ◌+◌, ◌*◌, ◌^◌, ◌<◌, ◌≤◌, Bool, true, false, not, ◌||◌, List, [], ◌∷◌, ◌++◌, length, Option, Some, None, Ok, refl, sym, ap, ◌∙◌, subst, arith, inl, inr}
use Rattle.std.specs.Prelude.{IfSome, ◌⊎◌}
use Rattle.std.proofs.lemmas.Bool.{le-ltb, or_from, or_left, or_right, not_from_true}
use Rattle.std.proofs.lemmas.List.{length-append}
use Rattle.wire.specs.Octets.{octets}
use Rattle.wire.proofs.OctetsLemmas.{is_same-true}
use Rattle.wire.proofs.SumLemmas.{sent-not_zero}
use Rattle.wire.specs.Frame.{Frame, plain}
use Rattle.wire.specs.First.{unless}
use Rattle.wire.specs.Refusal.{as_refused}
use Rattle.wire.proofs.FirstLemmas.{first-nothing}
use Rattle.wire.specs.declared.ip_udp.addr.Addr.{Addr}
use Rattle.wire.specs.declared.ip_udp.addr.Addr.TheVariants.{V4, V6}
use Rattle.wire.specs.declared.ip_udp.addr.Tunnel.{Tunnel}
use Rattle.wire.specs.declared.ip_udp.addr.Tunnel.TheVariants.{Vxlan, Geneve}
use Rattle.wire.specs.Addr.{is_group, is_usable}
use Rattle.wire.specs.Datagram.{Datagram}
use Rattle.wire.specs.Udp.{pseudo, udp_header}
use Rattle.wire.specs.Vxlan.{IsVni}
use Rattle.wire.proofs.VxlanReading.{vxlan-sent}
use Rattle.wire.proofs.PacketLemmas.{geneve-sent}
use Rattle.overlay.specs.Flood.{is_there, own_of}
use Rattle.overlay.specs.declared.underlay.segment.Segment.{Segment}
use Rattle.overlay.specs.declared.underlay.settings.Underlay.{Underlay}
use Rattle.overlay.specs.declared.underlay.tunnels.SegmentTunnel.{SegmentTunnel}
use Rattle.overlay.specs.Overlay.{Overlay}
use Rattle.overlay.specs.UnderlaySettings.{own, is_own, port_of}
use Rattle.decapsulate.specs.declared.arrived.Arrived.{Arrived}
use Rattle.decapsulate.specs.Arrival.{is_bad_source, IsTunnelled, IsSumTaken, Arrives, capture_reasons, arrival, arrival_of}
use Rattle.encapsulate.specs.Flow.{source_port}
use Rattle.encapsulate.specs.Packet.{tunnelled, sum_sent}
use Rattle.encapsulate.specs.Remote.{packet_from, remote_text}
use Rattle.encapsulate.specs.Sender.{IsOwnAddr, IsUnderlay}
use Rattle.encapsulate.proofs.SenderLemmas.{own-is, own-octets, packet-sent}
use Rattle.mesh_delivery.specs.Peer.{Sends, Receives, PeerGetsTheFrame}
use Rattle.encapsulate.proofs.Sending.{sum-right, source_port-below, Datagram4, Datagram6, fits4, fits6, length-packet4, length-packet6}

-- ---- addresses

-- so no group is an endpoint's own
unicast4 : (own : Option (List ℕ)) (b : List ℕ) → IfSome own (λ x. IsOwnAddr (V4 x)) → is_there own b ≡ true → is_group (V4 b) ≡ false
unicast4 None b h e = absurd cc
unicast4 (Some x) b h e = ap (λ (y : List ℕ). is_group (V4 y)) (sym (is_same-true x b e)) ∙ h.unicast

unicast6 : (own : Option (List ℕ)) (b : List ℕ) → IfSome own (λ x. IsOwnAddr (V6 x)) → is_there own b ≡ true → is_group (V6 b) ≡ false
unicast6 None b h e = absurd cc
unicast6 (Some x) b h e = ap (λ (y : List ℕ). is_group (V6 y)) (sym (is_same-true x b e)) ∙ h.unicast

own-unicast : (U : Underlay) (a : Addr) → IsUnderlay U → is_own U a ≡ true → is_group a ≡ false
own-unicast U (V4 b) s e = unicast4 U.ip4 b s.ip4 e
own-unicast U (V6 b) s e = unicast6 U.ip6 b s.ip6 e

good_source : (U : Underlay) (c : Addr) → IsOwnAddr c → is_own U c ≡ false → is_bad_source U c ≡ false
good_source U c h k =
    or_from (not (is_usable c) || is_group c) (is_own U c) (or_from (not (is_usable c)) (is_group c) (not_from_true (is_usable c) h.usable) h.unicast) k

-- ---- the checksum

length-pseudo4 : (src dst : List ℕ) (len : ℕ) → length src ≡ 4 → length dst ≡ 4 → length (pseudo (V4 src) (V4 dst) len) ≡ 2 * 6
length-pseudo4 src dst len p q = omega (arith, length-append (src ++ dst) (0 ∷ 17 ∷ octets 2 len), length-append src dst)

length-pseudo6 : (src dst : List ℕ) (len : ℕ) → length src ≡ 16 → length dst ≡ 16 → length (pseudo (V6 src) (V6 dst) len) ≡ 2 * 20
length-pseudo6 src dst len p q =
    omega (arith, length-append (src ++ dst ++ octets 4 len) (0 ∷ 0 ∷ 0 ∷ 17 ∷ []), length-append (src ++ dst) (octets 4 len), length-append src dst)

taken4 : (V : Underlay) (is_computed : Bool) (src dst : List ℕ) (from to : ℕ) (d : List ℕ) → length src ≡ 4 → length dst ≡ 4
    → IsSumTaken V (V4 src) (V4 dst) from to (sum_sent is_computed (V4 src) (V4 dst) from to d) d
taken4 V true src dst from to d p q =
    let front = pseudo (V4 src) (V4 dst) (8 + length d) in
    inr (sent-not_zero (front ++ (udp_header from to 0 d ++ d)), inl (sum-right 6 front from to d (length-pseudo4 src dst (8 + length d) p q)))
taken4 V false src dst from to d p q = inl (refl, refl)

taken6 : (V : Underlay) (is_computed : Bool) (src dst : List ℕ) (from to : ℕ) (d : List ℕ) → length src ≡ 16 → length dst ≡ 16
    → (is_computed ≡ true) ⊎ (V.zero6 ≡ true)
    → IsSumTaken V (V6 src) (V6 dst) from to (sum_sent is_computed (V6 src) (V6 dst) from to d) d
taken6 V true src dst from to d p q serves =
    let front = pseudo (V6 src) (V6 dst) (8 + length d) in
    inr (sent-not_zero (front ++ (udp_header from to 0 d ++ d)), inl (sum-right 20 front from to d (length-pseudo6 src dst (8 + length d) p q)))
taken6 V false src dst from to d p q (inl computed) = absurd cc
taken6 V false src dst from to d p q (inr zero6) = inl (refl, not_from_true V.zero6 zero6)

-- ---- the tunnel

tunnelled-is : (known : List (ℕ × ℕ)) (kind : Tunnel) (vni : ℕ) (f : Frame) → IsVni vni → IsTunnelled known kind (tunnelled kind vni f) vni (plain f)
tunnelled-is known Vxlan vni f h = vxlan-sent vni (plain f) h
tunnelled-is known Geneve vni f h = ([], geneve-sent vni (plain f) h, refl)

port-below : (U : Underlay) (kind : Tunnel) → IsUnderlay U → port_of U kind < 2 ^ 16
port-below U Vxlan s = s.vxlan_port
port-below U Geneve s = s.geneve_port

-- ---- what arrives

abbrev brought : ℕ → Tunnel → Addr → Frame → Arrived
brought w kind c f = record { vid = w; from = (kind, c); frame = record f { pcp = 0; dei = false } }

-- a datagram from the sender to the peer with the tunnel header and the frame in it, whose checksum is taken, arrives
arrives : (S R : Overlay) (vid w : ℕ) (h : Segment) (kind : Tunnel) (t : SegmentTunnel) (a c : Addr) (f : Frame) (b : List ℕ) (from sum : ℕ)
    → Sends S vid kind t a c f → Receives R S w h kind t a c f
    → Datagram b c a from (port_of S.underlay kind) sum (tunnelled kind t.vni f)
    → IsSumTaken R.underlay c a from (port_of S.underlay kind) sum (tunnelled kind t.vni f)
    → Arrives R b (brought w kind c f)
arrives S R vid w h kind t a c f b from sum s q datagram taken =
    let d = tunnelled kind t.vni f in
    let owned = own-is S.underlay a c s.settings s.from in
    record {
      dst = a;
      sport = from;
      sum = sum;
      data_text = d;
      vni = t.vni;
      segment = h;
      datagram = subst (λ (port : ℕ). Datagram b c a from port sum d) (sym q.port) datagram;
      sum_taken = subst (λ (port : ℕ). IsSumTaken R.underlay c a from port sum d) (sym q.port) taken;
      good_source = good_source R.underlay c owned q.from;
      for_us = not_from_true (is_group a || is_own R.underlay a) (elim q.to [ inl own ↦ or_right (is_group a) (is_own R.underlay a) own | inr group ↦ or_left (is_group a) (is_own R.underlay a) group.0 ]);
      tunnel = tunnelled-is R.underlay.known kind t.vni f s.vni;
      segment_is = q.segment;
      in_group = elim q.to [ inl own ↦ inl (own-unicast R.underlay a q.settings own) | inr group ↦ inr group.1 ];
      peer = q.rule;
      is_frame = record { dst = s.is_frame.dst; src = s.is_frame.src; pcp = omega arith; body = s.is_frame.body };
      no_priority = (refl, refl);
      individual = s.individual;
      unreserved = s.unreserved;
      tags = q.tags;
    }

-- the packet of the sender, and that it is short enough for a capture
pub record IsPacketOf (S R : Overlay) (vid w : ℕ) (kind : Tunnel) (a c : Addr) (f : Frame) : Type 0 where
  pub arrives : Arrives R (remote_text S vid kind a f) (brought w kind c f)
  pub short : length (remote_text S vid kind a f) ≤ 65549

-- a packet that is a datagram whose checksum is taken
sent-from : (S R : Overlay) (vid w : ℕ) (h : Segment) (kind : Tunnel) (t : SegmentTunnel) (a c : Addr) (f : Frame) (src : List ℕ) (sum : ℕ) (text : List ℕ)
    → Sends S vid kind t a c f → Receives R S w h kind t a c f → own_of (own S.underlay) a ≡ Some src → text ≡ packet_from S.underlay kind t.vni src a f
    → Datagram text c a (source_port f) (port_of S.underlay kind) sum (tunnelled kind t.vni f)
    → IsSumTaken R.underlay c a (source_port f) (port_of S.underlay kind) sum (tunnelled kind t.vni f)
    → length text ≤ 65549 → IsPacketOf S R vid w kind a c f
sent-from S R vid w h kind t a c f src sum text s q there is datagram taken short =
    let e : text ≡ remote_text S vid kind a f = is ∙ sym (packet-sent S vid kind t a src f s.tunnel there) in
    record {
      arrives = subst (λ (b : List ℕ). Arrives R b (brought w kind c f)) e (arrives S R vid w h kind t a c f text (source_port f) sum s q datagram taken);
      short = subst (λ (b : List ℕ). length b ≤ 65549) e short;
    }

sent-from4 : (S R : Overlay) (vid w : ℕ) (h : Segment) (kind : Tunnel) (t : SegmentTunnel) (dst src : List ℕ) (f : Frame) → S.underlay.ip4 ≡ Some src
    → Sends S vid kind t (V4 dst) (V4 src) f → Receives R S w h kind t (V4 dst) (V4 src) f → IsPacketOf S R vid w kind (V4 dst) (V4 src) f
sent-from4 S R vid w h kind t dst src f there s q =
    let U = S.underlay in
    let d = tunnelled kind t.vni f in
    let len : length src ≡ 4 = (own-is U (V4 dst) (V4 src) s.settings s.from).is_addr.0 in
    let room = fits4 S vid dst f s.settings s.is_frame s.admitted kind t.vni in
    sent-from S R vid w h kind t (V4 dst) (V4 src) f src _ _ s q there refl
    (Datagram4 U src dst (source_port f) (port_of U kind) d s.settings s.is_addr len (source_port-below f) (port-below U kind s.settings) room)
    (taken4 R.underlay U.sum4 src dst (source_port f) (port_of U kind) d len s.is_addr.0)
    (omega (arith, length-packet4 U src dst (source_port f) (port_of U kind) d s.settings s.is_addr len, room))

sent-from6 : (S R : Overlay) (vid w : ℕ) (h : Segment) (kind : Tunnel) (t : SegmentTunnel) (dst src : List ℕ) (f : Frame) → S.underlay.ip6 ≡ Some src
    → Sends S vid kind t (V6 dst) (V6 src) f → Receives R S w h kind t (V6 dst) (V6 src) f → IsPacketOf S R vid w kind (V6 dst) (V6 src) f
sent-from6 S R vid w h kind t dst src f there s q =
    let U = S.underlay in
    let d = tunnelled kind t.vni f in
    let len : length src ≡ 16 = (own-is U (V6 dst) (V6 src) s.settings s.from).is_addr.0 in
    let room = fits6 S vid dst f s.settings s.is_frame s.admitted kind t.vni in
    sent-from S R vid w h kind t (V6 dst) (V6 src) f src _ _ s q there refl
    (Datagram6 U src dst (source_port f) (port_of U kind) d s.settings s.is_addr len (source_port-below f) (port-below U kind s.settings) room)
    (taken6 R.underlay U.sum6 src dst (source_port f) (port_of U kind) d len s.is_addr.0 q.sum)
    (omega (arith, length-packet6 U src dst (source_port f) (port_of U kind) d s.settings s.is_addr len, room))

pub sent-to : (S R : Overlay) (vid w : ℕ) (h : Segment) (kind : Tunnel) (t : SegmentTunnel) (a c : Addr) (f : Frame)
    → Sends S vid kind t a c f → Receives R S w h kind t a c f → IsPacketOf S R vid w kind a c f
sent-to S R vid w h kind t (V4 dst) c f =
    λ s. let o = own-octets S.underlay.ip4 V4 c s.from in
    subst (λ (c : Addr). Sends S vid kind t (V4 dst) c f → Receives R S w h kind t (V4 dst) c f → IsPacketOf S R vid w kind (V4 dst) c f) o.2
    (sent-from4 S R vid w h kind t dst o.0 f o.1) s
sent-to S R vid w h kind t (V6 dst) c f =
    λ s. let o = own-octets S.underlay.ip6 V6 c s.from in
    subst (λ (c : Addr). Sends S vid kind t (V6 dst) c f → Receives R S w h kind t (V6 dst) c f → IsPacketOf S R vid w kind (V6 dst) c f) o.2
    (sent-from6 S R vid w h kind t dst o.0 f o.1) s

-- a packet is whole where it is as long as it was
whole : (R : Overlay) (b : List ℕ) (x : Arrived) → length b ≤ 65549 → arrival R b ≡ Ok x → arrival_of R (length b) b ≡ Ok x
whole R b x h e =
    ap (λ o. unless (as_refused None o) (arrival R b)) (first-nothing (capture_reasons (length b) b) (le-ltb _ _ h, (le-ltb _ _ (omega arith), tt))) ∙ e

-- what arrives in whole texts is what a packet brings
abbrev pub Brings : Type 0
Brings = (R : Overlay) (b : List ℕ) (x : Arrived) → R.underlay.vxlan_port ≢ R.underlay.geneve_port → Arrives R b x → arrival R b ≡ Ok x

pub peer : Brings → PeerGetsTheFrame
peer brings S R vid w h kind t a c f s q =
    let p = sent-to S R vid w h kind t a c f s q in
    let b = remote_text S vid kind a f in
    whole R b (brought w kind c f) p.short (brings R b (brought w kind c f) q.settings.two_ports p.arrives)
