-- What a datagram to this endpoint brings.
use Rattle.std.proofs.Common.{◌≡◌, ◌≢◌, ℕ, ◌+◌, ◌<◌, Bool, true, false, not, ◌&&◌, cond, eqb, List, ◌++◌, length, take, drop, Option, Some, None, Ok, option_map, refl, sym, ap, ◌∙◌, arith, inl, inr}
use Rattle.std.specs.Prelude.{◌⊎◌, is_none}
use Rattle.std.proofs.lemmas.Bool.{eq-eqb, ne_eqb, eqb-true, cases_Bool}
use Rattle.std.proofs.lemmas.List.{length-append, take_at, drop_at, drop-drop}
use Rattle.wire.specs.Octets.{part}
use Rattle.wire.specs.Sum.{total, folded}
use Rattle.wire.proofs.OctetsLemmas.{field-append}
use Rattle.wire.specs.First.{first, unless}
use Rattle.wire.specs.Frame.{Frame, IsFrame, plain, frame_of}
use Rattle.wire.specs.Refusal.{as_refused}
use Rattle.wire.specs.declared.ether.reason.Reason.{Reason}
use Rattle.wire.proofs.FirstLemmas.{NothingHolds-from, first-nothing}
use Rattle.wire.specs.declared.ip_udp.addr.Addr.{Addr}
use Rattle.wire.specs.declared.ip_udp.addr.Tunnel.{Tunnel}
use Rattle.wire.specs.declared.ip_udp.addr.Tunnel.TheVariants.{Vxlan, Geneve}
use Rattle.wire.specs.declared.ip_udp.udp_view.SumState.{SumState}
use Rattle.wire.specs.declared.ip_udp.udp_view.SumState.TheVariants.{Zero, Right, Partial, Wrong}
use Rattle.wire.specs.Udp.{udp_header, datagram, data_of, pseudo, partial_sum, sum_state}
use Rattle.wire.specs.Datagram.{Datagram, datagram_reasons as udp_reasons}
use Rattle.wire.proofs.UdpLemmas.{HasFields-from}
use Rattle.wire.proofs.DatagramLemmas.{only-datagram}
use Rattle.overlay.specs.declared.underlay.segment.Segment.{Segment}
use Rattle.overlay.specs.declared.underlay.settings.Underlay.{Underlay}
use Rattle.overlay.specs.UnderlaySettings.{kind_at, port_of}
use Rattle.overlay.specs.Overlay.{Overlay, segment_by}
use Rattle.wire.specs.VxlanReading.{vxlan_faults, reason_of as vxlan_reason}
use Rattle.wire.proofs.VxlanReading.{vxlan-only}
use Rattle.wire.specs.GeneveReading.{geneve_faults, reason_of as geneve_reason}
use Rattle.wire.specs.declared.geneve.view.GeneveFault.TheVariants.{CriticalOption}
use Rattle.wire.proofs.PacketLemmas.{geneve-only}
use Rattle.decapsulate.specs.Arrival.{packet_in, kind_to, sum_of, vni_of, inner_of, tunnel_reasons, is_bad_source, is_elsewhere, needs_sum, is_zero, is_wrong, frame_reasons, packet_reasons, datagram_reasons, outer_reasons, inner_reasons, arrival_in, arrival_by, arrival, IsTunnelled, IsSumTaken}
use Rattle.decapsulate.proofs.PacketLemmas.{first-as_reasons}
use Rattle.decapsulate.proofs.ReasonsLemmas.{carried-tunnel, outer-carried}

-- ---- the tunnel header

-- what is read of data: no reason, this VNI, and this inner text
pub record Reads (known : List (ℕ × ℕ)) (kind : Tunnel) (d : List ℕ) (vni : ℕ) (e : List ℕ) : Type 0 where
  pub nothing : first (tunnel_reasons known kind d) ≡ None
  pub vni_is : vni_of kind d ≡ vni
  pub inner_is : inner_of kind d ≡ e

pub Reads-from : (known : List (ℕ × ℕ)) (kind : Tunnel) (d : List ℕ) (vni : ℕ) (e : List ℕ) → IsTunnelled known kind d vni e → Reads known kind d vni e
Reads-from known Vxlan d vni e packet =
    let read = vxlan-only d vni e packet in
    record {
      nothing = first-as_reasons vxlan_reason (vxlan_faults d) ∙ ap (option_map vxlan_reason) read.0;
      vni_is = read.1;
      inner_is = read.2;
    }
Reads-from known Geneve d vni e packet =
    let read = geneve-only known d vni packet.0 e packet.1 in
    let none : first (geneve_faults known d) ≡ None = read.0 ∙ ap (λ (b : Bool). cond b None (Some CriticalOption)) packet.2 in
    record {
      nothing = first-as_reasons geneve_reason (geneve_faults known d) ∙ ap (option_map geneve_reason) none;
      vni_is = read.1;
      inner_is = read.3;
    }

-- ---- ports

pub kind_at-port : (U : Underlay) (kind : Tunnel) → U.vxlan_port ≢ U.geneve_port → kind_at U (port_of U kind) ≡ Some kind
kind_at-port U Vxlan differ = let same : eqb U.vxlan_port U.vxlan_port ≡ true = eq-eqb _ _ refl in rw same refl
kind_at-port U Geneve differ =
    let other : eqb U.geneve_port U.vxlan_port ≡ false = ne_eqb _ _ (λ e. differ (sym e)) in
    let same : eqb U.geneve_port U.geneve_port ≡ true = eq-eqb _ _ refl in
    rw (other, same) refl

pub port-kind_at : (U : Underlay) (port : ℕ) (kind : Tunnel) → kind_at U port ≡ Some kind → port ≡ port_of U kind
port-kind_at U port kind h = elim (cases_Bool (eqb port U.vxlan_port)) [
  | inl vxlan ↦
      let k : Vxlan ≡ kind = some_is Vxlan kind (sym (ap (λ (b : Bool). cond b (Some Vxlan) (cond (eqb port U.geneve_port) (Some Geneve) None)) vxlan) ∙ h) in
      eqb-true _ _ vxlan ∙ ap (port_of U) k
  | inr other ↦
      let g : cond (eqb port U.geneve_port) (Some Geneve) None ≡ Some kind = sym (ap (λ (b : Bool). cond b (Some Vxlan) (cond (eqb port U.geneve_port) (Some Geneve) None)) other) ∙ h in
      of_geneve (eqb port U.geneve_port) (eqb-true port U.geneve_port) g
]
  where
    some_is : (a b : Tunnel) → Some a ≡ Some b → a ≡ b
    some_is a b e = cc

    of_geneve : (b : Bool) → (b ≡ true → port ≡ U.geneve_port) → cond b (Some Geneve) None ≡ Some kind → port ≡ port_of U kind
    of_geneve true same e = same refl ∙ ap (port_of U) (some_is Geneve kind e)
    of_geneve false same e = absurd cc

-- ---- the checksum

-- what the checksum s of a text with the sum t and a pseudo header with the sum p says
abbrev pub state_of : ℕ → ℕ → ℕ → SumState
state_of s t p = cond (eqb s 0) Zero (cond (eqb t 65535) Right (cond (eqb s p) Partial Wrong))

abbrev pub text_sum : Addr → Addr → ℕ → ℕ → ℕ → List ℕ → ℕ
text_sum src dst from to sum d = folded (total (pseudo src dst (8 + length d) ++ (udp_header from to sum d ++ d)))

pub sum_state-header : (src dst : Addr) (from to sum : ℕ) (d : List ℕ) → from < 65536 → to < 65536 → sum < 65536 → 8 + length d < 65536
    → sum_state src dst (udp_header from to sum d ++ d) ≡ state_of sum (text_sum src dst from to sum d) (partial_sum src dst (8 + length d))
sum_state-header src dst from to sum d a b c e =
    let h = udp_header from to sum d in
    let fields = HasFields-from from to sum d a b c e in
    let sum_is = field-append 6 2 h d (omega arith) ∙ fields.sum_is in
    let len : length (h ++ d) ≡ 8 + length d = length-append h d in
    ap (λ (s : ℕ). state_of s (folded (total (pseudo src dst (length (h ++ d)) ++ (h ++ d)))) (partial_sum src dst (length (h ++ d)))) sum_is
    ∙ ap (λ (n : ℕ). state_of sum (folded (total (pseudo src dst n ++ (h ++ d)))) (partial_sum src dst n)) len

-- one that is taken meets no reason
pub state-taken : (U : Underlay) (s t p : ℕ) (needs : Bool) → ((s ≡ 0) × (needs ≡ false)) ⊎ ((0 < s) × ((t ≡ 65535) ⊎ ((U.partial ≡ true) × (s ≡ p))))
    → ((is_zero (state_of s t p) && needs) ≡ false) × (is_wrong U (state_of s t p) ≡ false)
state-taken U s t p needs (inl none) = let z : eqb s 0 ≡ true = eq-eqb s 0 none.0 in rw z (none.1, refl)
state-taken U s t p needs (inr some) =
    let z : eqb s 0 ≡ false = ne_eqb s 0 (λ e. let above = some.0 in absurd (omega arith)) in
    rw z (sound U needs (eqb t 65535) (eqb s p) (elim some.1 [ inl right ↦ inl (eq-eqb t 65535 right) | inr left ↦ inr (left.0, eq-eqb s p left.1) ]))
  where
    -- the same of the tests
    sound : (U : Underlay) (needs r q : Bool) → (r ≡ true) ⊎ ((U.partial ≡ true) × (q ≡ true))
        → ((is_zero (cond r Right (cond q Partial Wrong)) && needs) ≡ false) × (is_wrong U (cond r Right (cond q Partial Wrong)) ≡ false)
    sound U needs true q h = (refl, refl)
    sound U needs false true (inl right) = absurd cc
    sound U needs false true (inr left) = (refl, ap not left.0)
    sound U needs false false (inl right) = absurd cc
    sound U needs false false (inr left) = absurd cc

-- ---- the frame

pub frame_of-plain : (f : Frame) → IsFrame f → frame_of (plain f) ≡ record f { pcp = 0; dei = false }
frame_of-plain f h =
    let dst = take_at f.dst (f.src ++ f.body) 6 h.dst in
    let behind = drop_at f.dst (f.src ++ f.body) 6 h.dst in
    let src : part 6 6 (plain f) ≡ f.src = ap (take 6) behind ∙ take_at f.src f.body 6 h.src in
    let body : drop 12 (plain f) ≡ f.body = sym (drop-drop 6 6 (plain f)) ∙ ap (drop 6) behind ∙ drop_at f.src f.body 6 h.src in
    ap (λ (x : List ℕ). record { dst = x; src = part 6 6 (plain f); pcp = 0; dei = false; body = drop 12 (plain f) }) dst
    ∙ ap (λ (x : List ℕ). record { dst = f.dst; src = x; pcp = 0; dei = false; body = drop 12 (plain f) }) src
    ∙ ap (λ (x : List ℕ). record { dst = f.dst; src = f.src; pcp = 0; dei = false; body = x }) body

-- ---- the whole packet

-- data d that comes between these addresses and ports brings the inner text e into a segment
pub record Brings (S : Overlay) (vid : ℕ) (g : Segment) (kind : Tunnel) (vni : ℕ) (src dst : Addr) (from to sum : ℕ) (d e : List ℕ) : Type 0 where
  pub good_source : is_bad_source S.underlay src ≡ false
  pub for_us : is_elsewhere S.underlay dst ≡ false
  pub port : to ≡ port_of S.underlay kind
  pub two_ports : S.underlay.vxlan_port ≢ S.underlay.geneve_port
  pub sum_taken : IsSumTaken S.underlay src dst from to sum d
  pub reads : Reads S.underlay.known kind d vni e
  pub segment_is : segment_by S kind vni ≡ Some (vid, g)
  pub inside : first (inner_reasons g kind src dst e) ≡ None

-- a datagram with it meets no reason
pub outer-none : (S : Overlay) (vid : ℕ) (g : Segment) (kind : Tunnel) (vni : ℕ) (b : List ℕ) (src dst : Addr) (from to sum : ℕ) (d e : List ℕ)
    → Datagram b src dst from to sum d → Brings S vid g kind vni src dst from to sum d e → (kind_to S.underlay (packet_in b) ≡ Some kind) × (first (outer_reasons S b) ≡ None)
outer-none S vid g kind vni b src dst from to sum d e k q =
    let U = S.underlay in
    let p = packet_in b in
    let o = only-datagram b src dst from to sum d k in
    let parts = o.1 in
    let a = NothingHolds-from (udp_reasons b) o.0 in
    let kind_is : kind_to U p ≡ Some kind = ap (kind_at U) (parts.dport_is ∙ q.port) ∙ kind_at-port U kind q.two_ports in
    let told = state_of sum (text_sum src dst from to sum d) (partial_sum src dst (8 + length d)) in
    let state : sum_of p ≡ told =
    ap (λ (x : Addr). sum_state x p.destination (datagram p.payload)) parts.source_is
    ∙ ap (λ (x : Addr). sum_state src x (datagram p.payload)) parts.destination_is
    ∙ ap (λ (x : List ℕ). sum_state src dst x) parts.datagram_is
    ∙ sum_state-header src dst from to sum d k.fits.0 k.fits.1 k.fits.2 k.fits.3 in
    let taken = state-taken U sum (text_sum src dst from to sum d) (partial_sum src dst (8 + length d)) (needs_sum U src) q.sum_taken in
    let in_frame = first-nothing (frame_reasons b) (a.0, (a.1.0, (a.1.1.0, (a.1.1.1.0, tt)))) in
    let in_packet = first-nothing (packet_reasons U p) (
      ap (is_bad_source U) parts.source_is ∙ q.good_source,
      (ap (is_elsewhere U) parts.destination_is ∙ q.for_us, (a.1.1.1.1.0, (a.1.1.1.1.1.0, tt))),
    ) in
    let in_datagram = first-nothing (datagram_reasons U p) (
      a.1.1.1.1.1.1.0,
      (
        ap is_none kind_is,
        (
          ap (λ (s : SumState). is_zero s && needs_sum U p.source) state
              ∙ ap (λ (x : Addr). is_zero told && needs_sum U x) parts.source_is
              ∙ taken.0,
          (ap (is_wrong U) state ∙ taken.1, tt),
        ),
      ),
    ) in
    let in_tunnel = ap (λ (x : List ℕ). first (tunnel_reasons U.known kind x)) parts.data_is ∙ q.reads.nothing in
    (kind_is, outer-carried S b None in_frame (carried-tunnel U p kind None in_packet in_datagram kind_is in_tunnel))

pub arrives : (S : Overlay) (vid : ℕ) (g : Segment) (kind : Tunnel) (vni : ℕ) (b : List ℕ) (src dst : Addr) (from to sum : ℕ) (d e : List ℕ)
    → Datagram b src dst from to sum d → Brings S vid g kind vni src dst from to sum d e
    → arrival S b ≡ Ok (record { vid = vid; from = (kind, src); frame = frame_of e })
arrives S vid g kind vni b src dst from to sum d e k q =
    let p = packet_in b in
    let parts = (only-datagram b src dst from to sum d k).1 in
    let none = outer-none S vid g kind vni b src dst from to sum d e k q in
    ap (λ (o : Option Reason). unless (as_refused None o) (arrival_by S (kind_to S.underlay p) p.source p.destination (data_of p.payload))) none.1
    ∙ ap (λ (o : Option Tunnel). arrival_by S o p.source p.destination (data_of p.payload)) none.0
    ∙ ap (λ (x : Addr). arrival_by S (Some kind) x p.destination (data_of p.payload)) parts.source_is
    ∙ ap (λ (x : Addr). arrival_by S (Some kind) src x (data_of p.payload)) parts.destination_is
    ∙ ap (λ (x : List ℕ). arrival_by S (Some kind) src dst x) parts.data_is
    ∙ ap (λ (n : ℕ). arrival_in (segment_by S kind n) kind src dst (inner_of kind d)) q.reads.vni_is
    ∙ ap (λ (x : List ℕ). arrival_in (segment_by S kind vni) kind src dst x) q.reads.inner_is
    ∙ ap (λ (o : Option (ℕ × Segment)). arrival_in o kind src dst e) q.segment_is
    ∙ ap (λ (o : Option Reason). unless (as_refused (Some vid) o) (Ok (record { vid = vid; from = (kind, src); frame = frame_of e }))) q.inside
