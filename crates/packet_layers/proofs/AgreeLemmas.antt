-- Where an endpoint refuses a packet for a reason of its layers, taking it apart stops there.
use Rattle.std.proofs.Common.{◌≡◌, ◌≢◌, ℕ, ltb, leb, eqb, Bool, true, false, not, ◌&&◌, cond, List, [], ◌∷◌, ◌++◌, length, Option, Some, None, Ok, Err, refl, sym, ap, ◌∙◌, subst}
use Rattle.std.specs.Prelude.{IsTrue, is_none, Result}
use Rattle.std.proofs.lemmas.Bool.{false≢true}
use Rattle.std.proofs.lemmas.List.Elements.{All-nil, All-push}
use Rattle.wire.specs.First.{first, unless}
use Rattle.wire.specs.Refusal.{as_refused}
use Rattle.wire.proofs.FirstLemmas.{NothingHolds-from}
use Rattle.wire.specs.declared.ether.reason.Reason.{Reason}
use Rattle.wire.specs.declared.ether.reason.Reason.TheVariants.{Runt, BadSource, Reserved, NotIp, BadIp, BadIpSum, BadOuterSource, NotForUs, Fragment, NotUdp, BadUdp, NotTunnel, ZeroSum, BadUdpSum, UnknownVni, WrongGroup, UnknownPeer, InnerRunt, InnerTag}
use Rattle.wire.specs.declared.ether.reason.Refused.{Refused}
use Rattle.wire.specs.declared.ip_udp.addr.Addr.{Addr}
use Rattle.wire.specs.declared.ip_udp.addr.Tunnel.{Tunnel}
use Rattle.wire.specs.IpParts.{Parts}
use Rattle.wire.specs.Addr.{is_group}
use Rattle.wire.specs.Ip.{Family, Ip4, Ip6, packet_parts, is_bad_ip, is_bad_ip_sum}
use Rattle.wire.specs.Udp.{udp_parts, data_of, is_bad_udp}
use Rattle.wire.specs.Datagram.{family, behind_tags, tags_text, ip_text, is_ip}
use Rattle.overlay.specs.Overlay.{Overlay, segment_by, floods, is_listed, drops_tags}
use Rattle.wire.specs.Address.{is_group as is_group_mac, is_reserved}
use Rattle.wire.specs.Ether.{has_tag}
use Rattle.wire.specs.Frame.{frame_of}
use Rattle.overlay.specs.declared.underlay.segment.Segment.{Segment}
use Rattle.decapsulate.specs.Arrival.{outer_reasons, inner_reasons, packet_in, kind_to, frame_reasons, vni_of, inner_of, arrival_in, arrival_by, is_bad_source, is_elsewhere, sum_of, needs_sum, is_zero, is_wrong}
use Rattle.decapsulate.specs.declared.arrived.Arrived.{Arrived}
use Rattle.packet_layers.specs.declared.kind.HeadKind.{HeadKind}
use Rattle.packet_layers.specs.declared.kind.HeadKind.TheVariants.{Ether, Tag, Kind, Udp}
use Rattle.packet_layers.specs.declared.kind.Stop.TheVariants.{At}
use Rattle.packet_layers.specs.Apart.{Head, Apart, whole, split, put, front}
use Rattle.packet_layers.specs.Dissection.{rows, ip_kind, tag_off, type_off, Taken, stopped, frame_off, Layers, dissection}
use Rattle.packet_layers.specs.Laws.{is_of_layers, is_tunnel, HasNoTunnel, AgreesWithArrival}
use Rattle.decapsulate.specs.Arrival.{typed_reasons}
use Rattle.packet_layers.specs.Code.{udp_reasons, sum_reasons}
use Rattle.packet_layers.proofs.RefusalLemmas.{data_rows, refusal-runt, refusal-ip, refusal-udp, refusal-port, refusal-tunnel}
use Rattle.packet_layers.proofs.FrameLemmas.{at_ether, at_ip, at_udp, HasUdp, frame-runt, frame-ip, frame-udp, frame-port, frame-tunnel, from-stop}

-- ---- the layer that has the reason

-- the first reason of a table in five parts, by the part that it is in
data FirstIn (runt ip udp port tunnel : Option Reason) (reason : Reason) : Type 0 where
  in_runt : runt ≡ Some reason → FirstIn runt ip udp port tunnel reason
  in_ip : runt ≡ None → ip ≡ Some reason → FirstIn runt ip udp port tunnel reason
  in_udp : runt ≡ None → ip ≡ None → udp ≡ Some reason → FirstIn runt ip udp port tunnel reason
  in_port : runt ≡ None → ip ≡ None → udp ≡ None → port ≡ Some reason → FirstIn runt ip udp port tunnel reason
  in_tunnel : runt ≡ None → ip ≡ None → udp ≡ None → port ≡ None → tunnel ≡ Some reason → FirstIn runt ip udp port tunnel reason

abbrev In_tables : Bool → Bool → Bool → Bool → Bool → Bool → Bool → Bool → Bool → Bool → List (Reason × Bool) → Reason → Type 0
In_tables runt not_ip bad_ip bad_ip_sum fragment not_udp bad_udp not_tunnel absent wrong others reason =
    FirstIn (first ((Runt, runt) ∷ [])) (first ((NotIp, not_ip) ∷ (BadIp, bad_ip) ∷ (BadIpSum, bad_ip_sum) ∷ []))
    (first ((Fragment, fragment) ∷ (NotUdp, not_udp) ∷ (BadUdp, bad_udp) ∷ [])) (first ((NotTunnel, not_tunnel) ∷ []))
    (first ((ZeroSum, absent) ∷ (BadUdpSum, wrong) ∷ others)) reason

left_aside : (x reason : Reason) → is_of_layers x ≡ false → Some x ≡ Some reason → IsTrue (is_of_layers reason) → ⊥
left_aside x reason none same asked =
    let x_is : x ≡ reason = cc in
    false≢true (sym none ∙ ap is_of_layers x_is ∙ asked)

by_tests : (runt not_ip bad_ip bad_ip_sum source elsewhere fragment not_udp bad_udp not_tunnel absent wrong : Bool) (others : List (Reason × Bool)) (reason : Reason)
    → first ((Runt, runt) ∷ (NotIp, not_ip) ∷ (BadIp, bad_ip) ∷ (BadIpSum, bad_ip_sum) ∷ (BadOuterSource, source) ∷ (NotForUs, elsewhere) ∷ (Fragment, fragment) ∷ (NotUdp, not_udp) ∷ (BadUdp, bad_udp) ∷ (NotTunnel, not_tunnel) ∷ (ZeroSum, absent) ∷ (BadUdpSum, wrong) ∷ others) ≡ Some reason
    → IsTrue (is_of_layers reason) → In_tables runt not_ip bad_ip bad_ip_sum fragment not_udp bad_udp not_tunnel absent wrong others reason
by_tests true a b c s e f g i j k l others reason h asked = in_runt h
by_tests false true b c s e f g i j k l others reason h asked = in_ip refl h
by_tests false false true c s e f g i j k l others reason h asked = in_ip refl h
by_tests false false false true s e f g i j k l others reason h asked = in_ip refl h
by_tests false false false false true e f g i j k l others reason h asked = absurd (left_aside BadOuterSource reason refl h asked)
by_tests false false false false false true f g i j k l others reason h asked = absurd (left_aside NotForUs reason refl h asked)
by_tests false false false false false false true g i j k l others reason h asked = in_udp refl refl h
by_tests false false false false false false false true i j k l others reason h asked = in_udp refl refl h
by_tests false false false false false false false false true j k l others reason h asked = in_udp refl refl h
by_tests false false false false false false false false false true k l others reason h asked = in_port refl refl refl h
by_tests false false false false false false false false false false k l others reason h asked = in_tunnel refl refl refl refl h

-- ---- no tunnel header is taken off before it

no_tunnel-split : (kind : HeadKind) (v : Parts) (a : Apart) → is_tunnel kind ≡ false → HasNoTunnel a → HasNoTunnel (split kind v a)
no_tunnel-split kind v a k h = All-push (λ (x : Head). is_tunnel x.kind ≡ false) a.heads (record { kind = kind; place = a.payload.place; octets = v.head }) h k

no_tunnel-tag : (there : Bool) (a : Apart) → HasNoTunnel a → HasNoTunnel (tag_off there a)
no_tunnel-tag true a h = no_tunnel-split Tag (front 4 a.payload.octets) a refl h
no_tunnel-tag false a h = h

no_tunnel-type : (a : Apart) → HasNoTunnel a → HasNoTunnel (type_off a)
no_tunnel-type a h = by_test (leb 2 (length a.payload.octets))
  where
    by_test : (there : Bool) → HasNoTunnel (cond there (put Kind 2 a) a)
    by_test true = no_tunnel-split Kind (front 2 a.payload.octets) a refl h
    by_test false = h

no_tunnel-whole : (b : List ℕ) → HasNoTunnel (whole b)
no_tunnel-whole b = All-nil (λ (x : Head). is_tunnel x.kind ≡ false)

no_tunnel-ether : (b : List ℕ) → HasNoTunnel (at_ether (whole b))
no_tunnel-ether b =
    let n = length (tags_text b) in
    let a = put Ether 12 (whole b) in
    let t = tag_off (leb 4 n) a in
    no_tunnel-type (tag_off (leb 8 n) t) (
    no_tunnel-tag (leb 8 n) t (no_tunnel-tag (leb 4 n) a (no_tunnel-split Ether (front 12 b) (whole b) refl (no_tunnel-whole b)))
    )

is_tunnel-ip : (f : Family) → is_tunnel (ip_kind f) ≡ false
is_tunnel-ip Ip4 = refl
is_tunnel-ip Ip6 = refl

no_tunnel-ip : (b : List ℕ) → HasNoTunnel (at_ip (whole b))
no_tunnel-ip b =
    let e = at_ether (whole b) in
    no_tunnel-split (ip_kind (family b)) (packet_parts (family b) e.payload.octets) e (is_tunnel-ip (family b)) (no_tunnel-ether b)

no_tunnel-udp : (b : List ℕ) → HasNoTunnel (at_udp (whole b))
no_tunnel-udp b =
    let i = at_ip (whole b) in
    no_tunnel-split Udp (udp_parts i.payload.octets) i refl (no_tunnel-ip b)

-- ---- the stop

abbrev StopsAt : Reason → Layers → Type 0
StopsAt reason layers = (layers.stop ≡ At reason) × HasNoTunnel layers.apart

stop_with : (S : Overlay) (n : ℕ) (b : List ℕ) (reason : Reason) (x : Apart) → frame_off S n (whole b) ≡ stopped (At reason) x → HasNoTunnel x → StopsAt reason (dissection S n b)
stop_with S n b reason x same none =
    let e = from-stop S n (whole b) (At reason) (ap (λ (t : Taken). t.stop) same) in (
      ap (λ (l : Layers). l.stop) e,
      subst HasNoTunnel (sym (ap (λ (l : Layers). l.apart) e ∙ ap (λ (t : Taken). t.apart) same)) none,
    )

abbrev InTables : Overlay → List ℕ → Reason → Type 0
InTables S b reason =
    FirstIn (first (rows Runt Runt (frame_reasons b))) (first (typed_reasons (behind_tags b))) (first (udp_reasons (packet_in b)))
    (first ((NotTunnel, is_none (kind_to S.underlay (packet_in b))) ∷ [])) (first (sum_reasons S.underlay (packet_in b) ++ data_rows S b)) reason

stops : (S : Overlay) (n : ℕ) (b : List ℕ) (reason : Reason) → n ≢ 0 → InTables S b reason → StopsAt reason (dissection S n b)
stops S n b reason some (in_runt h) = stop_with S n b reason (whole b) (frame-runt S n (whole b) reason (refusal-runt S b ∙ h)) (no_tunnel-whole b)
stops S n b reason some (in_ip runt h) =
    stop_with S n b reason (at_ether (whole b)) (frame-ip S n (whole b) reason (refusal-runt S b ∙ runt) (refusal-ip S b ∙ h)) (no_tunnel-ether b)
stops S n b reason some (in_udp runt ip h) =
    stop_with S n b reason (at_ip (whole b)) (frame-udp S n (whole b) reason (refusal-runt S b ∙ runt) (refusal-ip S b ∙ ip) (refusal-udp S b ∙ h)) (no_tunnel-ip b)
stops S n b reason some (in_port runt ip udp h) =
    let none : HasUdp S b = record { ether = refusal-runt S b ∙ runt; ip = refusal-ip S b ∙ ip; udp = refusal-udp S b ∙ udp } in
    stop_with S n b reason (at_udp (whole b)) (frame-port S n (whole b) reason none (refusal-port S b ∙ h)) (no_tunnel-udp b)
stops S n b reason some (in_tunnel runt ip udp port h) =
    let none : HasUdp S b = record { ether = refusal-runt S b ∙ runt; ip = refusal-ip S b ∙ ip; udp = refusal-udp S b ∙ udp } in
    stop_with S n b reason (at_udp (whole b)) (frame-tunnel S n (whole b) reason none (refusal-port S b ∙ port) some (refusal-tunnel S b ∙ h)) (no_tunnel-udp b)

-- ---- the reasons behind the outer headers are none of the layers'

abbrev reason_in : Result Arrived Refused → Option Reason
reason_in (Ok arrived) = None
reason_in (Err refused) = Some refused.reason

named : (x y : Reason) → is_of_layers x ≡ false → Some x ≡ Some y → is_of_layers y ≡ false
named x y none same = let x_is : x ≡ y = cc in ap is_of_layers (sym x_is) ∙ none

inner_tests : (a b c d e f : Bool) (reason : Reason)
    → first ((WrongGroup, a) ∷ (UnknownPeer, b) ∷ (InnerRunt, c) ∷ (BadSource, d) ∷ (Reserved, e) ∷ (InnerTag, f) ∷ []) ≡ Some reason → is_of_layers reason ≡ false
inner_tests true b c d e f reason h = named WrongGroup reason refl h
inner_tests false true c d e f reason h = named UnknownPeer reason refl h
inner_tests false false true d e f reason h = named InnerRunt reason refl h
inner_tests false false false true e f reason h = named BadSource reason refl h
inner_tests false false false false true f reason h = named Reserved reason refl h
inner_tests false false false false false true reason h = named InnerTag reason refl h
inner_tests false false false false false false reason h = absurd cc

by_inner : (o : Option Reason) (vid : ℕ) (arrived : Arrived) (reason : Reason) → ((x : Reason) → o ≡ Some x → is_of_layers x ≡ false)
    → reason_in (unless (as_refused (Some vid) o) (Ok arrived)) ≡ Some reason → IsTrue (is_of_layers reason) → ⊥
by_inner None vid arrived reason none h asked = absurd cc
by_inner (Some x) vid arrived reason none h asked = left_aside x reason (none x refl) h asked

inner : (S : Overlay) (found : Option (ℕ × Segment)) (kind : Tunnel) (a b : Addr) (e : List ℕ) (reason : Reason)
    → reason_in (arrival_in found kind a b e) ≡ Some reason → IsTrue (is_of_layers reason) → ⊥
inner S None kind a b e reason h asked = left_aside UnknownVni reason refl h asked
inner S (Some found) kind a b e reason h asked =
    by_inner (first (inner_reasons found.1 kind a b e)) found.0 (record { vid = found.0; from = (kind, a); frame = frame_of e }) reason
    (λ x told. inner_tests (is_group b && not (floods found.1 kind b)) (is_listed found.1 && not (floods found.1 kind a)) (ltb (length e) 14) (is_group_mac (frame_of e).src) (is_reserved (frame_of e).dst) (has_tag e && drops_tags found.1) x told)
    h asked

behind : (S : Overlay) (k : Option Tunnel) (a b : Addr) (d : List ℕ) (reason : Reason) → is_none k ≡ false
    → reason_in (arrival_by S k a b d) ≡ Some reason → IsTrue (is_of_layers reason) → ⊥
behind S None a b d reason some h asked = false≢true (sym some)
behind S (Some kind) a b d reason some h asked = inner S (segment_by S kind (vni_of kind d)) kind a b (inner_of kind d) reason h asked

-- ---- both

by_first : (S : Overlay) (b : List ℕ) (reason : Reason) (o : Option Reason) → first (outer_reasons S b) ≡ o
    → reason_in (unless (as_refused None o) (arrival_by S (kind_to S.underlay (packet_in b)) (packet_in b).source (packet_in b).destination (data_of (packet_in b).payload))) ≡ Some reason
    → IsTrue (is_of_layers reason) → first (outer_reasons S b) ≡ Some reason
by_first S b reason (Some x) told h asked = told ∙ h
by_first S b reason None told h asked =
    let all = NothingHolds-from (outer_reasons S b) told in
    let p = packet_in b in
    absurd (behind S (kind_to S.underlay p) p.source p.destination (data_of p.payload) reason all.1.1.1.1.1.1.1.1.1.0 h asked)

pub agrees : (S : Overlay) (n : ℕ) (b : List ℕ) → n ≢ 0 → AgreesWithArrival S b (dissection S n b)
agrees S n b some vid reason asked refused =
    let U = S.underlay in
    let p = packet_in b in
    let f = family b in
    let r = ip_text b in
    let told : first (outer_reasons S b) ≡ Some reason = by_first S b reason (first (outer_reasons S b)) refl (ap reason_in refused) asked in
    stops S n b reason some (
    by_tests (ltb (length b) 14) (not (is_ip b)) (is_bad_ip f r) (is_bad_ip_sum f r) (is_bad_source U p.source) (is_elsewhere U p.destination)
    p.is_fragment (not (eqb p.protocol 17)) (is_bad_udp p.payload) (is_none (kind_to U p)) (is_zero (sum_of p) && needs_sum U p.source) (is_wrong U (sum_of p))
    (data_rows S b) reason told asked
    )
