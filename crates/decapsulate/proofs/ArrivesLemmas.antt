-- A packet brings what arrives in whole texts, and nothing else.
use Rattle.std.proofs.Common.{◌≡◌, ◌≢◌, ℕ, ◌+◌, ◌<◌, ◌≤◌, Bool, true, false, not, ◌&&◌, cond, eqb, List, ◌++◌, length, take, drop, Option, Some, None, Ok, option_map, refl, sym, ap, ◌∙◌, subst, arith, inl, inr}
use Rattle.std.specs.Prelude.{◌⊎◌, is_none}
use Rattle.std.proofs.lemmas.Bool.{ltb-false, le-ltb, eqb-true, eqb-false, not-false, not_from_true, and_cases, and_left, and_right}
use Rattle.std.proofs.lemmas.List.{length-append, length-take, length-drop, take-append-drop, drop-drop}
use Rattle.wire.specs.Octets.{IsText, part}
use Rattle.wire.specs.Address.{is_group as is_group_mac, is_reserved}
use Rattle.wire.specs.First.{first}
use Rattle.wire.proofs.RefusalLemmas.{refused-ok}
use Rattle.wire.specs.Frame.{Frame, IsFrame, plain, frame_of}
use Rattle.wire.specs.Tag.{begins_tag}
use Rattle.wire.specs.declared.ether.reason.Reason.{Reason}
use Rattle.wire.proofs.FirstLemmas.{NothingHolds, NothingHolds-from, first-nothing, same_Ok}
use Rattle.wire.specs.declared.ip_udp.addr.Addr.{Addr}
use Rattle.wire.specs.declared.ip_udp.addr.Tunnel.{Tunnel}
use Rattle.wire.specs.declared.ip_udp.addr.Tunnel.TheVariants.{Vxlan, Geneve}
use Rattle.wire.specs.declared.ip_udp.udp_view.SumState.{SumState}
use Rattle.wire.specs.declared.ip_udp.udp_view.SumState.TheVariants.{Zero, Right, Partial, Wrong}
use Rattle.wire.specs.Addr.{is_group}
use Rattle.wire.specs.Udp.{sport, dport, udp_sum, data_of, partial_sum, sum_state}
use Rattle.wire.specs.Datagram.{Datagram, datagram_reasons as udp_reasons}
use Rattle.wire.proofs.DatagramLemmas.{found-datagram, only-datagram, IsText-ip_payload, IsText-data}
use Rattle.overlay.specs.declared.underlay.segment.Segment.{Segment}
use Rattle.overlay.specs.declared.underlay.settings.Underlay.{Underlay}
use Rattle.overlay.specs.UnderlaySettings.{port_of}
use Rattle.overlay.specs.Overlay.{Overlay, segment_by, floods, is_listed, drops_tags}
use Rattle.wire.specs.VxlanReading.{vxlan_faults, reason_of as vxlan_reason}
use Rattle.wire.proofs.VxlanReading.{vxlan-found}
use Rattle.wire.specs.GeneveReading.{geneve_options, geneve_faults, reason_of as geneve_reason}
use Rattle.wire.proofs.PacketLemmas.{geneve-found}
use Rattle.decapsulate.specs.Arrival.{Arrived, packet_in, kind_to, sum_of, vni_of, inner_of, tunnel_reasons, data_reasons, needs_sum, is_zero, is_wrong, outer_reasons, inner_reasons, arrival_in, arrival_by, arrival, IsTunnelled, IsSumTaken, Arrives, BringsWhatArrives}
use Rattle.decapsulate.proofs.PacketLemmas.{first-as_reasons}
use Rattle.decapsulate.proofs.ArrivalLemmas.{Reads-from, port-kind_at, state_of, text_sum, sum_state-header, frame_of-plain, Brings, arrives}

-- ---- tests and what they say

not_both : (a b : Bool) → (a ≡ false) ⊎ (b ≡ true) → (a && not b) ≡ false
not_both a b (inl h) = and_left a (not b) h
not_both a b (inr h) = and_right a (not b) (not_from_true b h)

both : (a b : Bool) → (a && not b) ≡ false → (a ≡ false) ⊎ (b ≡ true)
both a b h = elim (and_cases a (not b) h) [ inl no_a ↦ inl no_a | inr no_b ↦ inr (not-false b no_b) ]

either : (a b : Bool) → (a ≡ false) ⊎ (b ≡ false) → (a && b) ≡ false
either a b (inl h) = and_left a b h
either a b (inr h) = and_right a b h

some_of : {A : Type 0} (o : Option A) → is_none o ≡ false → (a : A) × (o ≡ Some a)
some_of None h = absurd cc
some_of (Some a) h = (a, refl)

-- a table of reasons that a table of faults is, and none of which holds
no_fault : {A : Type 0} (o : Option A) (reason_of : A → Reason) → option_map reason_of o ≡ None → o ≡ None
no_fault None reason_of e = refl
no_fault (Some a) reason_of e = absurd cc

-- ---- from whole texts

without_priority : (f : Frame) → f.pcp ≡ 0 → f.dei ≡ false → record f { pcp = 0; dei = false } ≡ f
without_priority f p q = ap (λ (n : ℕ). record f { pcp = n; dei = false }) (sym p) ∙ ap (λ (c : Bool). record f { dei = c }) (sym q)

pub from_texts : (S : Overlay) (b : List ℕ) (x : Arrived) → S.underlay.vxlan_port ≢ S.underlay.geneve_port → Arrives S b x → arrival S b ≡ Ok x
from_texts S b x two k =
    let kind = x.from.0 in
    let src = x.from.1 in
    let frame = frame_of-plain x.frame k.is_frame in
    let e = plain x.frame in
    let len : 14 ≤ length e = omega (arith, length-append x.frame.dst (x.frame.src ++ x.frame.body), length-append x.frame.src x.frame.body, k.is_frame.dst, k.is_frame.src, k.is_frame.body) in
    let body : drop 12 e ≡ x.frame.body = ap (λ (y : Frame). y.body) frame in
    let inside : first (inner_reasons k.segment kind src k.dst e) ≡ None =
    first-nothing (inner_reasons k.segment kind src k.dst e) (
      not_both (is_group k.dst) (floods k.segment kind k.dst) k.in_group,
      (
        not_both (is_listed k.segment) (floods k.segment kind src) k.peer,
        (
          le-ltb _ _ len,
          (
            ap (λ (y : Frame). is_group_mac y.src) frame ∙ k.individual,
            (
              ap (λ (y : Frame). is_reserved y.dst) frame ∙ k.unreserved,
              (ap (λ (y : List ℕ). begins_tag y && drops_tags k.segment) body ∙ either (begins_tag x.frame.body) (drops_tags k.segment) k.tags, tt),
            ),
          ),
        ),
      ),
    ) in
    let brings : Brings S x.vid k.segment kind k.vni src k.dst k.sport (port_of S.underlay kind) k.sum k.data_text e = record {
      good_source = k.good_source;
      for_us = k.for_us;
      port = refl;
      two_ports = two;
      sum_taken = k.sum_taken;
      reads = Reads-from S.underlay.known kind k.data_text k.vni e k.tunnel;
      segment_is = k.segment_is;
      inside = inside;
    } in
    arrives S x.vid k.segment kind k.vni b src k.dst k.sport (port_of S.underlay kind) k.sum k.data_text e k.datagram brings
    ∙ ap (λ (y : Frame). Ok (record x { frame = y })) (frame ∙ without_priority x.frame k.no_priority.0 k.no_priority.1)

-- ---- to whole texts

record InSegment (g : Option (ℕ × Segment)) (kind : Tunnel) (a b : Addr) (e : List ℕ) (x : Arrived) : Type 0 where
  vid : ℕ
  segment : Segment
  segment_is : g ≡ Some (vid, segment)
  nothing : NothingHolds (inner_reasons segment kind a b e)
  is : ◌≡◌ {A = Arrived} (record { vid = vid; from = (kind, a); frame = frame_of e }) x

in_segment : (g : Option (ℕ × Segment)) (kind : Tunnel) (a b : Addr) (e : List ℕ) (x : Arrived) → arrival_in g kind a b e ≡ Ok x → InSegment g kind a b e x
in_segment None kind a b e x h = absurd cc
in_segment (Some found) kind a b e x h =
    let made : Arrived = record { vid = found.0; from = (kind, a); frame = frame_of e } in
    let u = refused-ok (Some found.0) (first (inner_reasons found.1 kind a b e)) (Ok made) x h in
    record { vid = found.0; segment = found.1; segment_is = refl; nothing = NothingHolds-from (inner_reasons found.1 kind a b e) u.0; is = same_Ok made x u.1 }

-- a text of 14 octets or more is that of a frame without a tag
pub is_frame-from : (e : List ℕ) → 14 ≤ length e → IsFrame (frame_of e)
is_frame-from e h = record {
  dst = omega (arith, length-take 6 e);
  src = omega (arith, length-take 6 (drop 6 e), length-drop 6 e);
  pcp = omega arith;
  body = omega (arith, length-drop 12 e);
}

plain-frame_of : (e : List ℕ) → plain (frame_of e) ≡ e
plain-frame_of e =
    ap (λ (z : List ℕ). take 6 e ++ (part 6 6 e ++ z)) (sym (drop-drop 6 6 e))
    ∙ ap (λ (z : List ℕ). take 6 e ++ z) (take-append-drop 6 (drop 6 e))
    ∙ take-append-drop 6 e

IsTunnelled-from : (known : List (ℕ × ℕ)) (kind : Tunnel) (d : List ℕ) → IsText d → first (tunnel_reasons known kind d) ≡ None → IsTunnelled known kind d (vni_of kind d) (inner_of kind d)
IsTunnelled-from known Vxlan d text h =
    vxlan-found d text (no_fault (first (vxlan_faults d)) vxlan_reason (sym (first-as_reasons vxlan_reason (vxlan_faults d)) ∙ h))
IsTunnelled-from known Geneve d text h =
    let read = geneve-found known d text (no_fault (first (geneve_faults known d)) geneve_reason (sym (first-as_reasons geneve_reason (geneve_faults known d)) ∙ h)) in
    (geneve_options d, read.0, read.1)

-- a checksum that meets no reason is taken
taken-state : (U : Underlay) (s t p : ℕ) (needs : Bool) → (is_zero (state_of s t p) && needs) ≡ false → is_wrong U (state_of s t p) ≡ false
    → ((s ≡ 0) × (needs ≡ false)) ⊎ ((0 < s) × ((t ≡ 65535) ⊎ ((U.partial ≡ true) × (s ≡ p))))
taken-state U s t p needs h k = by_test U (eqb s 0) (eqb t 65535) (eqb s p) needs (eqb-true s 0) (eqb-false s 0) (eqb-true t 65535) (eqb-true s p) h k
  where
    by_test : (U : Underlay) (z r q : Bool) (needs : Bool) → (z ≡ true → s ≡ 0) → (z ≡ false → s ≢ 0) → (r ≡ true → t ≡ 65535) → (q ≡ true → s ≡ p)
        → (is_zero (cond z Zero (cond r Right (cond q Partial Wrong))) && needs) ≡ false → is_wrong U (cond z Zero (cond r Right (cond q Partial Wrong))) ≡ false
        → ((s ≡ 0) × (needs ≡ false)) ⊎ ((0 < s) × ((t ≡ 65535) ⊎ ((U.partial ≡ true) × (s ≡ p))))
    by_test U true r q needs a b c e h k = inl (a refl, h)
    by_test U false true q needs a b c e h k = inr (let ne = b refl in omega (arith, ne), inl (c refl))
    by_test U false false true needs a b c e h k = inr (let ne = b refl in omega (arith, ne), inr (not-false U.partial k, e refl))
    by_test U false false false needs a b c e h k = absurd cc

to_texts : (S : Overlay) (b : List ℕ) (x : Arrived) → IsText b → arrival S b ≡ Ok x → Arrives S b x
to_texts S b x text h =
    let U = S.underlay in
    let p = packet_in b in
    let d = data_of p.payload in
    let src = p.source in
    let dst = p.destination in
    let u = refused-ok None (first (outer_reasons S b)) (arrival_by S (kind_to U p) src dst d) x h in
    let a = NothingHolds-from (outer_reasons S b) u.0 in
    let some_kind = some_of (kind_to U p) a.1.1.1.1.1.1.1.1.1.0 in
    let kind = some_kind.0 in
    let e = inner_of kind d in
    let g = in_segment (segment_by S kind (vni_of kind d)) kind src dst e x (ap (λ (o : Option Tunnel). arrival_by S o src dst d) (sym some_kind.1) ∙ u.1) in
    let none : first (udp_reasons b) ≡ None = first-nothing (udp_reasons b) (a.0, (a.1.0, (a.1.1.0, (a.1.1.1.0, (a.1.1.1.1.1.1.0, (a.1.1.1.1.1.1.1.0, (a.1.1.1.1.1.1.1.1.0, tt))))))) in
    let packet = found-datagram b text none in
    let from = sport p.payload in
    let to = dport p.payload in
    let sum = udp_sum p.payload in
    let parts = (only-datagram b src dst from to sum d packet).1 in
    let port_is : to ≡ port_of U kind = port-kind_at U to kind some_kind.1 in
    let partial = partial_sum src dst (8 + length d) in
    let state : sum_of p ≡ state_of sum (text_sum src dst from to sum d) partial =
    ap (λ (z : List ℕ). sum_state src dst z) parts.datagram_is ∙ sum_state-header src dst from to sum d packet.fits.0 packet.fits.1 packet.fits.2 packet.fits.3 in
    let taken : IsSumTaken U src dst from to sum d =
    taken-state U sum (text_sum src dst from to sum d) partial (needs_sum U src)
    (ap (λ (s : SumState). is_zero s && needs_sum U src) (sym state) ∙ a.1.1.1.1.1.1.1.1.1.1.0)
    (ap (is_wrong U) (sym state) ∙ a.1.1.1.1.1.1.1.1.1.1.1.0) in
    let in_tunnel : first (tunnel_reasons U.known kind d) ≡ None =
    ap (λ (o : Option Tunnel). first (data_reasons U.known o d)) (sym some_kind.1)
    ∙ first-nothing (data_reasons U.known (kind_to U p) d) a.1.1.1.1.1.1.1.1.1.1.1.1 in
    let i = g.nothing in
    let made : Arrived = record { vid = g.vid; from = (kind, src); frame = frame_of e } in
    let arrived : Arrives S b made = record {
      dst = dst;
      sport = from;
      sum = sum;
      data_text = d;
      vni = vni_of kind d;
      segment = g.segment;
      datagram = subst (λ (n : ℕ). Datagram b src dst from n sum d) port_is packet;
      sum_taken = subst (λ (n : ℕ). IsSumTaken U src dst from n sum d) port_is taken;
      good_source = a.1.1.1.1.0;
      for_us = a.1.1.1.1.1.0;
      tunnel = subst (λ (z : List ℕ). IsTunnelled U.known kind d (vni_of kind d) z) (sym (plain-frame_of e))
          (IsTunnelled-from U.known kind d (IsText-data p.payload (IsText-ip_payload b text)) in_tunnel);
      segment_is = g.segment_is;
      in_group = both (is_group dst) (floods g.segment kind dst) i.0;
      peer = both (is_listed g.segment) (floods g.segment kind src) i.1.0;
      is_frame = is_frame-from e (ltb-false _ _ i.1.1.0);
      no_priority = (refl, refl);
      individual = i.1.1.1.0;
      unreserved = i.1.1.1.1.0;
      tags = and_cases (begins_tag (drop 12 e)) (drops_tags g.segment) i.1.1.1.1.1.0;
    } in
    subst (λ (y : Arrived). Arrives S b y) g.is arrived

pub brings_what_arrives : BringsWhatArrives
brings_what_arrives S b x two text = (to_texts S b x text, from_texts S b x two)
