-- The layers of a packet are parts of it, and make it up.
use Rattle.std.proofs.Common.{◌≡◌, ℕ, zero, suc, ◌≤◌, ◌||◌, leb, eqb, Bool, true, false, not, cond, List, length, drop, Option, Some, None, refl, sym, ap, ◌∙◌, arith, inl, inr}
use Rattle.std.proofs.lemmas.Bool.{or_cases, not-false}
use Rattle.std.proofs.lemmas.List.{length-append}
use Rattle.wire.proofs.OctetsLemmas.{begins-true}
use Rattle.wire.proofs.FirstLemmas.{NothingHolds-from}
use Rattle.wire.specs.declared.ether.reason.Reason.{Reason}
use Rattle.wire.specs.declared.ether.reason.Reason.TheVariants.{Runt, NotIp, BadIpSum, Fragment, BadUdp, NotTunnel, ZeroSum, CriticalOption}
use Rattle.wire.specs.declared.ip_udp.addr.Tunnel.{Tunnel}
use Rattle.wire.specs.Ip.{Family, Ip4, Ip6, packet_parts, is_bad_ip}
use Rattle.wire.specs.Udp.{udp_parts, is_bad_udp}
use Rattle.wire.specs.Datagram.{behind_tags, tags_text, ether_type, has_type, family, ip_text}
use Rattle.wire.proofs.IpLemmas.{found-ip}
use Rattle.wire.proofs.UdpLemmas.{found-udp}
use Rattle.overlay.specs.Overlay.{Overlay}
use Rattle.decapsulate.specs.Arrival.{packet_in, kind_to, header_octets}
use Rattle.packet_layers.specs.declared.kind.HeadKind.TheVariants.{Ether, Tag, Kind, Udp}
use Rattle.packet_layers.specs.declared.kind.Stop.{Stop}
use Rattle.packet_layers.specs.declared.kind.Stop.TheVariants.{Deep}
use Rattle.packet_layers.specs.Apart.{Apart, whole, put}
use Rattle.packet_layers.specs.Dissection.{refusal, ip_kind, tunnel_kind, tag_off, type_off, ether_off, tunnel_off, Taken, stopped, unless_stopped, frame_off, Layers, or_next, layers_from, dissection}
use Rattle.decapsulate.specs.Arrival.{typed_reasons}
use Rattle.packet_layers.specs.Code.{udp_reasons}
use Rattle.packet_layers.proofs.RefusalLemmas.{refusal-ip, refusal-udp}
use Rattle.packet_layers.proofs.EtherLemmas.{left-ether}
use Rattle.packet_layers.proofs.FrameLemmas.{at_ether, at_ip, at_udp}
use Rattle.packet_layers.proofs.PartsLemmas.{IsOf, IsOf-whole, IsOf-split, IsOf-put}

-- ---- one layer more

IsOf-tag : (b : List ℕ) (there : Bool) (a : Apart) → IsOf b a → IsOf b (tag_off there a)
IsOf-tag b true a h = IsOf-put b Tag 4 a h
IsOf-tag b false a h = h

IsOf-type : (b : List ℕ) (a : Apart) → IsOf b a → IsOf b (type_off a)
IsOf-type b a h = by_test (leb 2 (length a.payload.octets))
  where
    by_test : (there : Bool) → IsOf b (cond there (put Kind 2 a) a)
    by_test true = IsOf-put b Kind 2 a h
    by_test false = h

IsOf-ether : (b f : List ℕ) (a : Apart) → IsOf b a → IsOf b (ether_off f a)
IsOf-ether b f a h =
    let n = length (tags_text f) in
    let first_tag = IsOf-tag b (leb 4 n) (put Ether 12 a) (IsOf-put b Ether 12 a h) in
    IsOf-type b (tag_off (leb 8 n) (tag_off (leb 4 n) (put Ether 12 a))) (IsOf-tag b (leb 8 n) (tag_off (leb 4 n) (put Ether 12 a)) first_tag)

-- a text that begins with a type has its two octets
two_octets : (f : Family) (t : List ℕ) → has_type f t ≡ true → 2 ≤ length t
two_octets Ip4 t h = let front = begins-true (ether_type Ip4) t h in omega (arith, ap length front, length-append (ether_type Ip4) (drop 2 t))
two_octets Ip6 t h = let front = begins-true (ether_type Ip6) t h in omega (arith, ap length front, length-append (ether_type Ip6) (drop 2 t))

two_of_ip : (t : List ℕ) → not (has_type Ip4 t || has_type Ip6 t) ≡ false → 2 ≤ length t
two_of_ip t h = elim (or_cases (has_type Ip4 t) (has_type Ip6 t) (not-false (has_type Ip4 t || has_type Ip6 t) h)) [
  | inl four ↦ two_octets Ip4 t four
  | inr six ↦ two_octets Ip6 t six
]

-- what is left of a frame with an IP packet, and that this is one
pub record HasIpLeft (a : Apart) : Type 0 where
  pub left : (at_ether a).payload.octets ≡ ip_text a.payload.octets
  pub good : is_bad_ip (family a.payload.octets) (ip_text a.payload.octets) ≡ false

HasIpLeft-from : (S : Overlay) (a : Apart) → refusal S NotIp BadIpSum a.payload.octets ≡ None → HasIpLeft a
HasIpLeft-from S a none =
    let b = a.payload.octets in
    let all = NothingHolds-from (typed_reasons (behind_tags b)) (sym (refusal-ip S b) ∙ none) in
    record { left = left-ether b a refl (two_of_ip (behind_tags b) all.0); good = all.1.0 }

IsOf-ip : (S : Overlay) (b : List ℕ) (a : Apart) → refusal S NotIp BadIpSum a.payload.octets ≡ None → IsOf b (at_ether a) → IsOf b (at_ip a)
IsOf-ip S b a none h =
    let f = family a.payload.octets in
    let r = (at_ether a).payload.octets in
    let k = HasIpLeft-from S a none in
    let good : is_bad_ip f r ≡ false = ap (is_bad_ip f) k.left ∙ k.good in
    IsOf-split b (ip_kind f) (packet_parts f r) (at_ether a) (sym (found-ip f r good).whole) h

IsOf-udp : (S : Overlay) (b : List ℕ) (a : Apart) → refusal S NotIp BadIpSum a.payload.octets ≡ None → refusal S Fragment BadUdp a.payload.octets ≡ None
    → IsOf b (at_ip a) → IsOf b (at_udp a)
IsOf-udp S b a ip udp h =
    let c = a.payload.octets in
    let f = family c in
    let p = (at_ip a).payload.octets in
    let k = HasIpLeft-from S a ip in
    let left : p ≡ (packet_in c).payload = ap (λ (r : List ℕ). (packet_parts f r).payload) k.left in
    let all = NothingHolds-from (udp_reasons (packet_in c)) (sym (refusal-udp S c) ∙ udp) in
    let good : is_bad_udp p ≡ false = ap is_bad_udp left ∙ all.1.1.0 in
    IsOf-split b Udp (udp_parts p) (at_ip a) (sym (found-udp p good).whole) h

IsOf-tunnel : (b : List ℕ) (k : Option Tunnel) (a : Apart) → IsOf b a → IsOf b (tunnel_off k a)
IsOf-tunnel b None a h = h
IsOf-tunnel b (Some kind) a h = IsOf-put b (tunnel_kind kind) (header_octets kind a.payload.octets) a h

-- ---- frame by frame

at_stop : (b : List ℕ) (o : Option Reason) (a : Apart) (next : Taken) → IsOf b a → (o ≡ None → IsOf b next.apart) → IsOf b (unless_stopped o a next).apart
at_stop b None a next h k = k refl
at_stop b (Some reason) a next h k = h

at_last : (b : List ℕ) (last : Bool) (x y : Taken) → IsOf b x.apart → IsOf b y.apart → IsOf b (cond last x y).apart
at_last b true x y h k = h
at_last b false x y h k = k

IsOf-frame : (S : Overlay) (n : ℕ) (b : List ℕ) (a : Apart) → IsOf b a → IsOf b (frame_off S n a).apart
unfolding frame_off
IsOf-frame S n b a h =
    let c = a.payload.octets in
    let kind = kind_to S.underlay (packet_in c) in
    let ether = at_ether a in
    let ip = at_ip a in
    let udp = at_udp a in
    let on : Taken = record { apart = tunnel_off kind udp; stop = None } in
    let in_tunnel : Taken = unless_stopped (refusal S ZeroSum CriticalOption c) udp on in
    let deep : Taken = cond (eqb n 0) (stopped Deep udp) in_tunnel in
    let in_port : Taken = unless_stopped (refusal S NotTunnel NotTunnel c) udp deep in
    let in_udp : Taken = unless_stopped (refusal S Fragment BadUdp c) ip in_port in
    let in_ip : Taken = unless_stopped (refusal S NotIp BadIpSum c) ether in_udp in
    at_stop b (refusal S Runt Runt c) a in_ip h (λ e1.
    let he = IsOf-ether b c a h in
    at_stop b (refusal S NotIp BadIpSum c) ether in_udp he (λ e2.
    let hi = IsOf-ip S b a e2 he in
    at_stop b (refusal S Fragment BadUdp c) ip in_port hi (λ e3.
    let hu = IsOf-udp S b a e2 e3 hi in
    at_stop b (refusal S NotTunnel NotTunnel c) udp deep hu (λ e4.
    at_last b (eqb n 0) (stopped Deep udp) in_tunnel hu (
    at_stop b (refusal S ZeroSum CriticalOption c) udp on hu (λ e5. IsOf-tunnel b kind udp hu)
    )))))

at_next : (b : List ℕ) (o : Option Stop) (a : Apart) (next : Layers) → IsOf b a → IsOf b next.apart → IsOf b (or_next o a next).apart
at_next b None a next h k = k
at_next b (Some stop) a next h k = h

IsOf-from : (S : Overlay) (n : ℕ) (b : List ℕ) (a : Apart) → IsOf b a → IsOf b (layers_from S n a).apart
IsOf-from S zero b a h =
    let t = frame_off S 0 a in
    at_next b t.stop t.apart (record { apart = t.apart; stop = Deep }) (IsOf-frame S 0 b a h) (IsOf-frame S 0 b a h)
IsOf-from S (suc n) b a h =
    let t = frame_off S (suc n) a in
    at_next b t.stop t.apart (layers_from S n t.apart) (IsOf-frame S (suc n) b a h) (IsOf-from S n b t.apart (IsOf-frame S (suc n) b a h))

-- the parts of a packet are parts of it, and make it up
pub IsOf-dissection : (S : Overlay) (n : ℕ) (b : List ℕ) → IsOf b (dissection S n b).apart
IsOf-dissection S n b = IsOf-from S n b (whole b) (IsOf-whole b)
