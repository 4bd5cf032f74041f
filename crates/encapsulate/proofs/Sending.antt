-- What is sent is a datagram of its parts.
use Rattle.std.proofs.Common.{◌≡◌, ℕ, ◌+◌, ◌-◌, ◌*◌, ◌^◌, ◌<◌, Bool, true, false, List, [], ◌∷◌, ◌++◌, length, take, Option, Some, None, refl, sym, ap, ◌∙◌, arith}
use Rattle.std.specs.Prelude.{IfSome, unwrap_or}
use Rattle.std.specs.FinMap.{get}
use Rattle.std.proofs.lemmas.Bool.{ltb-false, cond_both}
use Rattle.std.proofs.lemmas.List.{length-append, length-drop, take_at, drop_at, append-nil, take_all}
use Rattle.wire.specs.Octets.{octets}
use Rattle.wire.specs.Sum.{total, folded, sent}
use Rattle.wire.proofs.SumLemmas.{check-completes, sent-completes_behind, sent-below}
use Rattle.wire.specs.Frame.{Frame, IsFrame, size}
use Rattle.wire.proofs.FirstLemmas.{NothingHolds-from}
use Rattle.wire.specs.declared.ip_udp.addr.Addr.{Addr}
use Rattle.wire.specs.declared.ip_udp.addr.Addr.TheVariants.{V4, V6}
use Rattle.wire.specs.declared.ip_udp.addr.Tunnel.{Tunnel}
use Rattle.wire.specs.declared.ip_udp.addr.Tunnel.TheVariants.{Vxlan, Geneve}
use Rattle.wire.specs.Addr.{IsAddr, address, is_group, group_mac}
use Rattle.wire.specs.Ip.{Family, Ip4, Ip6}
use Rattle.wire.specs.Udp.{udp_header, pseudo}
use Rattle.wire.specs.Datagram.{IsUdpCarrier, Datagram, ether_type}
use Rattle.overlay.specs.declared.underlay.settings.Underlay.{Underlay}
use Rattle.overlay.specs.Overlay.{Overlay}
use Rattle.overlay.specs.UnderlaySettings.{hop_to}
use Rattle.encapsulate.specs.Flow.{source_port}
use Rattle.encapsulate.specs.Packet.{tunnelled, sum_sent, udp_sent, ip4_sent, ip6_sent, packet}
use Rattle.encapsulate.specs.Remote.{unsent_reasons, admits}
use Rattle.encapsulate.specs.Sender.{IsUnderlay}

-- ---- the MAC address to send to

length-hop : (found : Option (List ℕ)) (next : List ℕ) → IfSome found (λ mac. length mac ≡ 6) → length next ≡ 6 → length (unwrap_or found next) ≡ 6
length-hop None next h e = e
length-hop (Some mac) next h e = h

length-group_mac : (a : Addr) → IsAddr a → length (group_mac a) ≡ 6
length-group_mac (V4 b) h = omega (arith, length-drop 2 b, h.0)
length-group_mac (V6 b) h = omega (arith, length-drop 12 b, h.0)

pub length-hop_to : (U : Underlay) (a : Addr) → IsUnderlay U → IsAddr a → length (hop_to U a) ≡ 6
length-hop_to U a s h =
    cond_both (is_group a) (group_mac a) (unwrap_or (get U.hops (address a)) U.next_hop) (λ m. length m ≡ 6)
    (λ _. length-group_mac a h) (λ _. length-hop (get U.hops (address a)) U.next_hop (s.hops (address a)) s.next_hop)

-- ---- the headers

-- the IPv4 header carries a datagram of so many octets, and its checksum is right
pub ip4-carries : (ttl : ℕ) (src dst : List ℕ) (whole len : ℕ) → length src ≡ 4 → length dst ≡ 4 → whole ≡ 20 + len → whole < 2 ^ 16
    → IsUdpCarrier Ip4 (ip4_sent ttl src dst whole) (V4 src) (V4 dst) len
ip4-carries ttl src dst whole len p q sum_is room =
    let both = length-append src dst in
    record {
      header = record { version = refl; shortest = omega arith; octets = omega arith; total = omega arith };
      sum = check-completes 5 (0x45 ∷ 0x00 ∷ octets 2 whole ++ (0x00 ∷ 0x00 ∷ 0x40 ∷ 0x00 ∷ ttl ∷ 17 ∷ [])) (src ++ dst) refl;
      is_whole = refl;
      protocol = refl;
      src_is = ap V4 (sym (take_at src dst 4 p));
      dst_is = ap V4 (sym (ap (take 4) (drop_at src dst 4 p) ∙ take_all 4 dst (omega arith)));
    }

pub ip6-carries : (ttl : ℕ) (src dst : List ℕ) (whole len : ℕ) → length src ≡ 16 → length dst ≡ 16 → whole ≡ len → whole < 2 ^ 16
    → IsUdpCarrier Ip6 (ip6_sent ttl src dst whole) (V6 src) (V6 dst) len
ip6-carries ttl src dst whole len p q sum_is room =
    let both = length-append src dst in
    record {
      header = record { version = refl; octets = omega arith; total = omega arith };
      sum = tt;
      is_whole = refl;
      protocol = refl;
      src_is = ap V6 (sym (take_at src dst 16 p));
      dst_is = ap V6 (sym (ap (take 16) (drop_at src dst 16 p) ∙ take_all 16 dst (omega arith)));
    }

pub sum_sent-below : (is_computed : Bool) (src dst : Addr) (sport dport : ℕ) (d : List ℕ) → sum_sent is_computed src dst sport dport d < 2 ^ 16
sum_sent-below true src dst sport dport d = omega (arith, sent-below (pseudo src dst (8 + length d) ++ (udp_header sport dport 0 d ++ d)))
sum_sent-below false src dst sport dport d = omega arith

-- a computed checksum is right
pub sum-right : (k : ℕ) (front : List ℕ) (sport dport : ℕ) (d : List ℕ) → length front ≡ 2 * k
    → folded (total (front ++ (udp_header sport dport (sent (front ++ (udp_header sport dport 0 d ++ d))) d ++ d))) ≡ 65535
sum-right k front sport dport d e =
    let six = octets 2 sport ++ (octets 2 dport ++ octets 2 (8 + length d)) in
    sent-completes_behind k 3 front six d e refl

-- ---- the whole packet

pub source_port-below : (f : Frame) → source_port f < 2 ^ 16
source_port-below f = omega arith

pub length-tunnelled : (kind : Tunnel) (vni : ℕ) (f : Frame) → IsFrame f → length (tunnelled kind vni f) ≡ 8 + size f
length-tunnelled Vxlan vni f h = omega (arith, length-append f.dst (f.src ++ f.body), length-append f.src f.body, h.dst, h.src)
length-tunnelled Geneve vni f h = omega (arith, length-append f.dst (f.src ++ f.body), length-append f.src f.body, h.dst, h.src)

-- nothing stands behind the data
no_tail : (u d : List ℕ) → u ++ d ≡ (u ++ (d ++ [])) ++ []
no_tail u d = sym (append-nil (u ++ (d ++ [])) ∙ ap (λ (x : List ℕ). u ++ x) (append-nil d))

datagram : (U : Underlay) (family : Family) (head : List ℕ) (src dst : Addr) (sport dport c : ℕ) (d : List ℕ) → IsUnderlay U → IsAddr dst → IsUdpCarrier family head src dst (8 + length d + 0)
    → sport < 2 ^ 16 → dport < 2 ^ 16 → c < 2 ^ 16 → 8 + length d < 2 ^ 16
    → Datagram ((hop_to U dst ++ U.mac) ++ (ether_type family ++ (head ++ (udp_header sport dport c d ++ d)))) src dst sport dport c d
datagram U family head src dst sport dport c d s a carries h k l room =
    let front = hop_to U dst ++ U.mac in
    record {
      family = family;
      addresses = front;
      tags = [];
      head = head;
      tail = [];
      trailer = [];
      twelve = omega (arith, length-append (hop_to U dst) U.mac, length-hop_to U dst s a, s.mac);
      at_most_two = omega arith;
      are_tags = tt;
      is_carrier = carries;
      fits = (h, k, l, room);
      whole = ap (λ (x : List ℕ). front ++ (ether_type family ++ (head ++ x))) (no_tail (udp_header sport dport c d) d);
    }

pub Datagram4 : (U : Underlay) (src dst : List ℕ) (sport dport : ℕ) (d : List ℕ) → IsUnderlay U → IsAddr (V4 dst) → length src ≡ 4 → sport < 2 ^ 16 → dport < 2 ^ 16 → 28 + length d < 2 ^ 16
    → Datagram (packet U src (V4 dst) sport dport d) (V4 src) (V4 dst) sport dport (sum_sent U.sum4 (V4 src) (V4 dst) sport dport d) d
Datagram4 U src dst sport dport d s a len h k room =
    datagram U Ip4 (ip4_sent U.ttl src dst (28 + length d)) (V4 src) (V4 dst) sport dport (sum_sent U.sum4 (V4 src) (V4 dst) sport dport d) d s a
    (ip4-carries U.ttl src dst (28 + length d) (8 + length d + 0) len a.0 (omega arith) room) h k (sum_sent-below U.sum4 (V4 src) (V4 dst) sport dport d) (omega arith)

pub Datagram6 : (U : Underlay) (src dst : List ℕ) (sport dport : ℕ) (d : List ℕ) → IsUnderlay U → IsAddr (V6 dst) → length src ≡ 16 → sport < 2 ^ 16 → dport < 2 ^ 16 → 48 + length d < 2 ^ 16
    → Datagram (packet U src (V6 dst) sport dport d) (V6 src) (V6 dst) sport dport (sum_sent U.sum6 (V6 src) (V6 dst) sport dport d) d
Datagram6 U src dst sport dport d s a len h k room =
    datagram U Ip6 (ip6_sent U.ttl src dst (8 + length d)) (V6 src) (V6 dst) sport dport (sum_sent U.sum6 (V6 src) (V6 dst) sport dport d) d s a
    (ip6-carries U.ttl src dst (8 + length d) (8 + length d + 0) len a.0 (omega arith) (omega arith)) h k (sum_sent-below U.sum6 (V6 src) (V6 dst) sport dport d) (omega arith)

-- ---- what is admitted fits

length-around : (U : Underlay) (a : Addr) (family : Family) (head rest : List ℕ) → IsUnderlay U → IsAddr a → length ((hop_to U a ++ U.mac) ++ (ether_type family ++ (head ++ rest))) ≡ 14 + length head + length rest
length-around U a family head rest s h =
    let front = hop_to U a ++ U.mac in
    omega (arith, length-append (hop_to U a) U.mac, length-hop_to U a s h, s.mac, length-append front (ether_type family ++ (head ++ rest)), length-append (ether_type family) (head ++ rest), length-append head rest, two family)
  where
    two : (family : Family) → length (ether_type family) ≡ 2
    two Ip4 = refl
    two Ip6 = refl

pub length-packet4 : (U : Underlay) (src dst : List ℕ) (sport dport : ℕ) (d : List ℕ) → IsUnderlay U → IsAddr (V4 dst) → length src ≡ 4 → length (packet U src (V4 dst) sport dport d) ≡ 42 + length d
length-packet4 U src dst sport dport d s a len =
    let around = length-around U (V4 dst) Ip4 (ip4_sent U.ttl src dst (28 + length d)) (udp_sent U.sum4 (V4 src) (V4 dst) sport dport d ++ d) s a in
    omega (arith, around, length-append src dst, a.0, len)

pub length-packet6 : (U : Underlay) (src dst : List ℕ) (sport dport : ℕ) (d : List ℕ) → IsUnderlay U → IsAddr (V6 dst) → length src ≡ 16 → length (packet U src (V6 dst) sport dport d) ≡ 62 + length d
length-packet6 U src dst sport dport d s a len =
    let around = length-around U (V6 dst) Ip6 (ip6_sent U.ttl src dst (8 + length d)) (udp_sent U.sum6 (V6 src) (V6 dst) sport dport d ++ d) s a in
    omega (arith, around, length-append src dst, a.0, len)

pub fits4 : (S : Overlay) (vid : ℕ) (dst : List ℕ) (f : Frame) → IsUnderlay S.underlay → IsFrame f → admits S vid (V4 dst) f ≡ None → (kind : Tunnel) (vni : ℕ) → 28 + length (tunnelled kind vni f) < 2 ^ 16
fits4 S vid dst f s h e kind vni =
    let a = NothingHolds-from (unsent_reasons S vid (V4 dst) f) e in
    let small = ltb-false (S.underlay.mtu - 36) (size f) a.0 in
    omega (arith, length-tunnelled kind vni f h, s.mtu, h.body)

pub fits6 : (S : Overlay) (vid : ℕ) (dst : List ℕ) (f : Frame) → IsUnderlay S.underlay → IsFrame f → admits S vid (V6 dst) f ≡ None → (kind : Tunnel) (vni : ℕ) → 48 + length (tunnelled kind vni f) < 2 ^ 16
fits6 S vid dst f s h e kind vni =
    let a = NothingHolds-from (unsent_reasons S vid (V6 dst) f) e in
    let small = ltb-false (S.underlay.mtu - 56) (size f) a.0 in
    omega (arith, length-tunnelled kind vni f h, s.mtu, h.body)
