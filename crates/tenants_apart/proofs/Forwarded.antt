-- What comes to a bridge, by a port or by a tunnel, is forwarded; and a whole record comes as it enters.
use Rattle.std.proofs.Common.{◌≡◌, ℕ, ◌≤◌, List, length, Option, Some, None, Result, Ok, Err, refl, ap, ◌∙◌, subst, arith}
use Rattle.std.proofs.lemmas.Bool.{ltb-false, le-ltb}
use Rattle.wire.specs.Octets.{IsText}
use Rattle.wire.specs.First.{first, unless}
use Rattle.wire.specs.Frame.{Frame, frame_of}
use Rattle.wire.specs.declared.ether.reason.Refused.{Refused}
use Rattle.wire.proofs.FirstLemmas.{NothingHolds-from, first-nothing, unless-ok, same_Ok}
use Rattle.wire.proofs.RefusalLemmas.{refused-ok}
use Rattle.filter_db.specs.declared.place.Place.TheVariants.{Local}
use Rattle.overlay.specs.Ingress.{enters}
use Rattle.overlay.specs.Ports.{Ports}
use Rattle.overlay.proofs.Entering.{enters-from}
use Rattle.wire.specs.Udp.{data_of}
use Rattle.wire.specs.declared.ip_udp.addr.Addr.{Addr}
use Rattle.wire.specs.declared.ip_udp.addr.Tunnel.{Tunnel}
use Rattle.overlay.specs.Overlay.{Overlay, segment_by}
use Rattle.overlay.specs.declared.underlay.segment.Segment.{Segment}
use Rattle.decapsulate.specs.Arrival.{capture_reasons as packet_reasons, outer_reasons, inner_reasons, packet_in, kind_to, vni_of, inner_of, arrival_in, arrival_by, arrival, arrival_of}
use Rattle.decapsulate.specs.declared.arrived.Arrived.{Arrived}
use Rattle.decapsulate.proofs.ArrivesLemmas.{is_frame-from}
use Rattle.endpoint_core.specs.Arrival.{Arrival}
use Rattle.endpoint_core.specs.Arrival.{capture_reasons, entered, let_in, tunnelled, came_at, came_by}
use Rattle.endpoint_core.proofs.LetIn.{let_in-ok}
use Rattle.tenants_apart.specs.Again.{IsForwarded}

-- ---- by a port

pub record-comes : (s : Ports) (o : Overlay) (port v : ℕ) (b : List ℕ) (f : Frame) → enters s port b ≡ Ok (v, f) → length b ≤ 65535 → came_at s o port (length b) b ≡ let_in o (Ok (record { vid = v; from = Local port; frame = f }))
unfolding came_at
record-comes s o port v b f enters_so short =
    ap (λ (x : Option Refused). unless x (let_in o (entered port (enters s port b)))) (first-nothing (capture_reasons (length b) b) (le-ltb 65535 (length b) short, (le-ltb (length b) (length b) (omega arith), tt)))
    ∙ ap (λ (r : Result (ℕ × Frame) Refused). let_in o (entered port r)) enters_so

entered-from : (port : ℕ) (r : Result (ℕ × Frame) Refused) (came : Arrival) → entered port r ≡ Ok came → r ≡ Ok (came.vid, came.frame)
entered-from port (Ok found) came h =
    let made : Arrival = record { vid = found.0; from = Local port; frame = found.1 } in
    ap (λ (c : Arrival). Ok (c.vid, c.frame)) (same_Ok made came h)
entered-from port (Err refused) came h = absurd cc

pub frame-forwarded : (s : Ports) (o : Overlay) (port original : ℕ) (b : List ℕ) (came : Arrival) → IsText b → came_at s o port original b ≡ Ok came → IsForwarded came.frame
unfolding came_at
frame-forwarded s o port original b came text h =
    let inside = unless-ok (first (capture_reasons original b)) (let_in o (entered port (enters s port b))) came h in
    let it = enters-from s port b came.vid came.frame text (entered-from port (enters s port b) came (let_in-ok o (entered port (enters s port b)) came inside.1).0) in
    record { is_frame = it.text.is_frame; source_is_individual = it.source_is_individual; destination_is_forwarded = it.destination_is_forwarded }

-- ---- by a tunnel

in_segment : (g : Option (ℕ × Segment)) (kind : Tunnel) (a b : Addr) (e : List ℕ) (x : Arrived) → arrival_in g kind a b e ≡ Ok x → IsForwarded x.frame
in_segment None kind a b e x h = absurd cc
in_segment (Some found) kind a b e x h =
    let made : Arrived = record { vid = found.0; from = (kind, a); frame = frame_of e } in
    let u = refused-ok (Some found.0) (first (inner_reasons found.1 kind a b e)) (Ok made) x h in
    let i = NothingHolds-from (inner_reasons found.1 kind a b e) u.0 in
    let it : IsForwarded (frame_of e) = record {
      is_frame = is_frame-from e (ltb-false (length e) 14 i.1.1.0);
      source_is_individual = i.1.1.1.0;
      destination_is_forwarded = i.1.1.1.1.0;
    } in
    subst (λ (y : Arrived). IsForwarded y.frame) (same_Ok made x u.1) it

by_kind : (S : Overlay) (o : Option Tunnel) (a b : Addr) (d : List ℕ) (x : Arrived) → arrival_by S o a b d ≡ Ok x → IsForwarded x.frame
by_kind S None a b d x h = absurd cc
by_kind S (Some kind) a b d x h = in_segment (segment_by S kind (vni_of kind d)) kind a b (inner_of kind d) x h

arrived-forwarded : (S : Overlay) (original : ℕ) (b : List ℕ) (x : Arrived) → arrival_of S original b ≡ Ok x → IsForwarded x.frame
arrived-forwarded S original b x h =
    let p = packet_in b in
    let whole = refused-ok None (first (packet_reasons original b)) (arrival S b) x h in
    let inside = refused-ok None (first (outer_reasons S b)) (arrival_by S (kind_to S.underlay p) p.source p.destination (data_of p.payload)) x whole.1 in
    by_kind S (kind_to S.underlay p) p.source p.destination (data_of p.payload) x inside.1

tunnelled-from : (r : Result Arrived Refused) (came : Arrival) → tunnelled r ≡ Ok came → ((x : Arrived) → r ≡ Ok x → IsForwarded x.frame) → IsForwarded came.frame
tunnelled-from (Ok x) came h forwarded = subst (λ (c : Arrival). IsForwarded c.frame) (same_Ok _ came h) (forwarded x refl)
tunnelled-from (Err refused) came h forwarded = absurd cc

pub packet-forwarded : (S : Overlay) (original : ℕ) (b : List ℕ) (came : Arrival) → came_by S original b ≡ Ok came → IsForwarded came.frame
unfolding came_by
packet-forwarded S original b came h = tunnelled-from (arrival_of S original b) came h (arrived-forwarded S original b)
