-- What comes of a frame, by the reasons of its layers.
use Rattle.std.proofs.Common.{◌≡◌, ◌≢◌, ℕ, zero, suc, ◌-◌, ◌≤◌, eqb, true, false, List, [], ◌∷◌, drop, Option, Some, None, refl, sym, ap, ◌∙◌, arith}
use Rattle.std.proofs.lemmas.Bool.{eq-eqb, ne_eqb}
use Rattle.std.specs.Prelude.{is_none}
use Rattle.wire.specs.First.{first}
use Rattle.wire.proofs.FirstLemmas.{first-append}
use Rattle.wire.specs.declared.ether.reason.Reason.{Reason}
use Rattle.wire.specs.declared.ether.reason.Reason.TheVariants.{Runt, NotIp, BadIpSum, Fragment, BadUdp, NotTunnel, ZeroSum, CriticalOption}
use Rattle.wire.specs.declared.ip_udp.addr.Tunnel.{Tunnel}
use Rattle.overlay.specs.Overlay.{Overlay}
use Rattle.wire.specs.IpParts.{Parts}
use Rattle.wire.specs.Ip.{packet_parts}
use Rattle.wire.specs.Udp.{dport, data_of, SplitsUdp}
use Rattle.wire.specs.Datagram.{behind_tags}
use Rattle.wire.proofs.UdpLemmas.{ReadsAs-from}
use Rattle.overlay.specs.declared.underlay.settings.Underlay.{Underlay}
use Rattle.overlay.specs.UnderlaySettings.{kind_at}
use Rattle.decapsulate.specs.Arrival.{Packet, packet_at, packet_in, kind_to, frame_reasons, data_reasons, tunnel_reasons}
use Rattle.decapsulate.proofs.ReasonsLemmas.{first-front}
use Rattle.packet_layers.specs.declared.kind.Stop.{Stop}
use Rattle.packet_layers.specs.declared.kind.Stop.TheVariants.{At, Deep}
use Rattle.packet_layers.specs.Apart.{Apart, split}
use Rattle.packet_layers.specs.Dissection.{rows, refusal, ip_kind, ether_off, ip_off, udp_off, tunnel_off, stopped, frame_off, or_next, layers_from}
use Rattle.decapsulate.specs.Arrival.{family_named, typed_reasons}
use Rattle.packet_layers.specs.Code.{udp_reasons, sum_reasons}
use Rattle.packet_layers.proofs.RefusalLemmas.{data_rows, refusal-runt, refusal-ip, refusal-udp, refusal-port, refusal-tunnel}

-- a frame so far: what is left of it behind each of its layers
abbrev pub at_ether : Apart → Apart
at_ether a = ether_off a.payload.octets a

abbrev pub at_ip : Apart → Apart
at_ip a = ip_off a.payload.octets (at_ether a)

abbrev pub at_udp : Apart → Apart
at_udp a = udp_off (at_ip a)

-- the reasons of the layers up to UDP, none of which holds
pub record HasUdp (S : Overlay) (b : List ℕ) : Type 0 where
  pub ether : refusal S Runt Runt b ≡ None
  pub ip : refusal S NotIp BadIpSum b ≡ None
  pub udp : refusal S Fragment BadUdp b ≡ None

-- ---- what the code has in its hands

-- what it took off up to UDP, the packet that it read, and the tunnel kind of the port in it
pub record CameToUdp (S : Overlay) (a u : Apart) (p : Packet) (k : Option Tunnel) : Type 0 where
  pub none : HasUdp S a.payload.octets
  pub udp_is : u ≡ at_udp a
  pub packet_is : p ≡ packet_in a.payload.octets
  pub data_is : u.payload.octets ≡ data_of p.payload
  pub kind_is : k ≡ kind_to S.underlay (packet_in a.payload.octets)

pub ip-reason : (S : Overlay) (b t : List ℕ) (o : Option Reason) → t ≡ behind_tags b → o ≡ first (typed_reasons t) → refusal S NotIp BadIpSum b ≡ o
ip-reason S b t o t_is told = refusal-ip S b ∙ ap (λ (x : List ℕ). first (typed_reasons x)) (sym t_is) ∙ sym told

pub udp-reason : (S : Overlay) (b : List ℕ) (p : Packet) (o : Option Reason) → p ≡ packet_in b → o ≡ first (udp_reasons p) → refusal S Fragment BadUdp b ≡ o
udp-reason S b p o p_is told = refusal-udp S b ∙ ap (λ (x : Packet). first (udp_reasons x)) (sym p_is) ∙ sym told

pub ip-is : (b t : List ℕ) (a e i : Apart) → t ≡ behind_tags b → e ≡ ether_off b a
    → i ≡ split (ip_kind (family_named t)) (packet_parts (family_named t) e.payload.octets) e → i ≡ ip_off b (ether_off b a)
ip-is b t a e i t_is e_is i_is =
    i_is
    ∙ ap (λ (x : List ℕ). split (ip_kind (family_named x)) (packet_parts (family_named x) e.payload.octets) e) t_is
    ∙ ap (ip_off b) e_is

pub packet-is : (b t : List ℕ) (p : Packet) → t ≡ behind_tags b → p ≡ packet_at (family_named t) (drop 2 t) → p ≡ packet_in b
packet-is b t p t_is p_is = p_is ∙ ap (λ (x : List ℕ). packet_at (family_named x) (drop 2 x)) t_is

-- the port that a view of the datagram tells
kind-is : (S : Overlay) (b : List ℕ) (p : Packet) (v : Parts) (port : ℕ) (k : Option Tunnel) → p ≡ packet_in b → SplitsUdp p.payload v → port ≡ dport v.head → k ≡ kind_at S.underlay port
    → k ≡ kind_to S.underlay (packet_in b)
kind-is S b p v port k p_is splits port_is k_is =
    k_is
    ∙ ap (kind_at S.underlay) (port_is ∙ sym (ReadsAs-from p.payload v splits).dport_is)
    ∙ ap (kind_to S.underlay) p_is

pub CameToUdp-from : (S : Overlay) (a e i u : Apart) (t : List ℕ) (p : Packet) (v : Parts) (port : ℕ) (k : Option Tunnel)
    → None ≡ first (rows Runt Runt (frame_reasons a.payload.octets)) → e ≡ at_ether a → t ≡ behind_tags a.payload.octets
    → None ≡ first (typed_reasons t) → i ≡ split (ip_kind (family_named t)) (packet_parts (family_named t) e.payload.octets) e → p ≡ packet_at (family_named t) (drop 2 t) → p.payload ≡ i.payload.octets
    → None ≡ first (udp_reasons p) → u ≡ udp_off i → SplitsUdp p.payload v → port ≡ dport v.head → k ≡ kind_at S.underlay port → CameToUdp S a u p k
CameToUdp-from S a e i u t p v port k runt e_is t_is ip i_is p_is left udp u_is splits port_is k_is =
    let b = a.payload.octets in
    let packet = packet-is b t p t_is p_is in
    record {
      none = record { ether = refusal-runt S b ∙ sym runt; ip = ip-reason S b t None t_is ip; udp = udp-reason S b p None packet udp };
      udp_is = u_is ∙ ap udp_off (ip-is b t a e i t_is e_is i_is);
      packet_is = packet;
      data_is = ap (λ (x : Apart). x.payload.octets) u_is ∙ ap data_of (sym left);
      kind_is = kind-is S b p v port k packet splits port_is k_is;
    }

pub port-none : (S : Overlay) (b : List ℕ) → None ≡ kind_to S.underlay (packet_in b) → refusal S NotTunnel NotTunnel b ≡ Some NotTunnel
port-none S b h = refusal-port S b ∙ ap (λ (k : Option Tunnel). first ((NotTunnel, is_none k) ∷ [])) (sym h)

pub port-some : (S : Overlay) (b : List ℕ) (kind : Tunnel) → Some kind ≡ kind_to S.underlay (packet_in b) → refusal S NotTunnel NotTunnel b ≡ None
port-some S b kind h = refusal-port S b ∙ ap (λ (k : Option Tunnel). first ((NotTunnel, is_none k) ∷ [])) (sym h)

pub sum-reason : (S : Overlay) (b : List ℕ) (p : Packet) (U : Underlay) (reason : Reason) → p ≡ packet_in b → U ≡ S.underlay → Some reason ≡ first (sum_reasons U p)
    → refusal S ZeroSum CriticalOption b ≡ Some reason
sum-reason S b p U reason p_is U_is told =
    refusal-tunnel S b
    ∙ first-front (sum_reasons S.underlay (packet_in b)) (data_rows S b) reason
    (ap (λ (x : Packet). first (sum_reasons S.underlay x)) (sym p_is) ∙ ap (λ (x : Underlay). first (sum_reasons x p)) (sym U_is) ∙ sym told)

pub tunnel-reason : (S : Overlay) (b : List ℕ) (p : Packet) (U : Underlay) (kind : Tunnel) (known : List (ℕ × ℕ)) (d : List ℕ) (o : Option Reason) → p ≡ packet_in b → U ≡ S.underlay → None ≡ first (sum_reasons U p)
    → Some kind ≡ kind_to S.underlay (packet_in b) → known ≡ S.underlay.known → d ≡ data_of p.payload → o ≡ first (tunnel_reasons known kind d)
    → refusal S ZeroSum CriticalOption b ≡ o
tunnel-reason S b p U kind known d o p_is U_is none k_is known_is d_is told =
    refusal-tunnel S b
    ∙ first-append (sum_reasons S.underlay (packet_in b)) (data_rows S b)
    (ap (λ (x : Packet). first (sum_reasons S.underlay x)) (sym p_is) ∙ ap (λ (x : Underlay). first (sum_reasons x p)) (sym U_is) ∙ sym none)
    ∙ ap (λ (k : Option Tunnel). first (data_reasons S.underlay.known k (data_of (packet_in b).payload))) (sym k_is)
    ∙ ap (λ (x : List ℕ). first (tunnel_reasons S.underlay.known kind x)) (sym (d_is ∙ ap (λ (x : Packet). data_of x.payload) p_is))
    ∙ ap (λ (x : List (ℕ × ℕ)). first (tunnel_reasons x kind d)) (sym known_is)
    ∙ sym told

-- ---- what comes of the frame

pub frame-runt : (S : Overlay) (n : ℕ) (a : Apart) (reason : Reason) → refusal S Runt Runt a.payload.octets ≡ Some reason
    → frame_off S n a ≡ stopped (At reason) a
unfolding frame_off
frame-runt S n a reason h = rw h refl

pub frame-ip : (S : Overlay) (n : ℕ) (a : Apart) (reason : Reason) → refusal S Runt Runt a.payload.octets ≡ None → refusal S NotIp BadIpSum a.payload.octets ≡ Some reason
    → frame_off S n a ≡ stopped (At reason) (at_ether a)
unfolding frame_off
frame-ip S n a reason h k = rw (h, k) refl

pub frame-udp : (S : Overlay) (n : ℕ) (a : Apart) (reason : Reason) → refusal S Runt Runt a.payload.octets ≡ None → refusal S NotIp BadIpSum a.payload.octets ≡ None
    → refusal S Fragment BadUdp a.payload.octets ≡ Some reason → frame_off S n a ≡ stopped (At reason) (at_ip a)
unfolding frame_off
frame-udp S n a reason h k l = rw (h, k, l) refl

pub frame-port : (S : Overlay) (n : ℕ) (a : Apart) (reason : Reason) → HasUdp S a.payload.octets → refusal S NotTunnel NotTunnel a.payload.octets ≡ Some reason
    → frame_off S n a ≡ stopped (At reason) (at_udp a)
unfolding frame_off
frame-port S n a reason h k = rw (h.ether, h.ip, h.udp, k) refl

pub frame-deep : (S : Overlay) (n : ℕ) (a : Apart) → HasUdp S a.payload.octets → refusal S NotTunnel NotTunnel a.payload.octets ≡ None → n ≡ 0
    → frame_off S n a ≡ stopped Deep (at_udp a)
unfolding frame_off
frame-deep S n a h k e = let none : eqb n 0 ≡ true = eq-eqb n 0 e in rw (h.ether, h.ip, h.udp, k, none) refl

pub frame-tunnel : (S : Overlay) (n : ℕ) (a : Apart) (reason : Reason) → HasUdp S a.payload.octets → refusal S NotTunnel NotTunnel a.payload.octets ≡ None → n ≢ 0
    → refusal S ZeroSum CriticalOption a.payload.octets ≡ Some reason → frame_off S n a ≡ stopped (At reason) (at_udp a)
unfolding frame_off
frame-tunnel S n a reason h k e l = let some : eqb n 0 ≡ false = ne_eqb n 0 e in rw (h.ether, h.ip, h.udp, k, some, l) refl

pub frame-on : (S : Overlay) (n : ℕ) (a : Apart) → HasUdp S a.payload.octets → refusal S NotTunnel NotTunnel a.payload.octets ≡ None → n ≢ 0
    → refusal S ZeroSum CriticalOption a.payload.octets ≡ None
    → frame_off S n a ≡ record { apart = tunnel_off (kind_to S.underlay (packet_in a.payload.octets)) (at_udp a); stop = None }
unfolding frame_off
frame-on S n a h k e l = let some : eqb n 0 ≡ false = ne_eqb n 0 e in rw (h.ether, h.ip, h.udp, k, some, l) refl

-- ---- the frames

pub from-stop : (S : Overlay) (n : ℕ) (a : Apart) (stop : Stop) → (frame_off S n a).stop ≡ Some stop
    → layers_from S n a ≡ record { apart = (frame_off S n a).apart; stop = stop }
from-stop S zero a stop h = ap (λ (o : Option Stop). or_next o (frame_off S 0 a).apart (record { apart = (frame_off S 0 a).apart; stop = Deep })) h
from-stop S (suc n) a stop h = ap (λ (o : Option Stop). or_next o (frame_off S (suc n) a).apart (layers_from S n (frame_off S (suc n) a).apart)) h

pub from-on : (S : Overlay) (n : ℕ) (a : Apart) → 1 ≤ n → (frame_off S n a).stop ≡ None → layers_from S n a ≡ layers_from S (n - 1) (frame_off S n a).apart
from-on S zero a h k = absurd (omega arith)
from-on S (suc n) a h k =
    let less : n ≡ suc n - 1 = omega arith in
    ap (λ (o : Option Stop). or_next o (frame_off S (suc n) a).apart (layers_from S n (frame_off S (suc n) a).apart)) k
    ∙ ap (λ (m : ℕ). layers_from S m (frame_off S (suc n) a).apart) less
