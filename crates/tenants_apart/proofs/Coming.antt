-- What comes to a segment is read by its own part of the settings.
use Rattle.std.proofs.Common.{◌≡◌, ℕ, ◌==◌, Bool, true, false, cond, not, nat_lt, ◌&&◌, List, [], ◌∷◌, ◌++◌, length, Option, Some, None, Result, Ok, Err, is_none, is_some, refl, sym, ap, ◌∙◌}
use Rattle.std.specs.Prelude.{IsSome}
use Rattle.std.specs.FinMap.{FinMap, get}
use Rattle.std.specs.List.{AllByRecursion}
use Rattle.std.specs.Ordering.{nat_cmp}
use Rattle.std.specs.Option.{option_map, option_and_then}
use Rattle.std.proofs.lemmas.Bool.{false≢true, eqb-true}
use Rattle.std.proofs.lemmas.Option.{none-some, same_Some}
use Rattle.wire.specs.First.{first, unless}
use Rattle.wire.specs.declared.ether.reason.Refused.{Refused}
use Rattle.wire.specs.declared.ip_udp.addr.Tunnel.{Tunnel}
use Rattle.wire.specs.Udp.{data_of, is_bad_udp}
use Rattle.wire.specs.Frame.{Frame}
use Rattle.wire.specs.Address.{is_group, is_reserved}
use Rattle.overlay.specs.Ports.{Ports, Members, port_at, has_segment, members_at, egress_at}
use Rattle.overlay.specs.Ingress.{source, destination, is_cut, tag_vid, frame_in, segment_vid, accepts, vid_at, text_reasons, nowhere, within, enters}
use Rattle.overlay.specs.declared.ports.member.Egress.{Egress}
use Rattle.overlay.specs.declared.ports.port.PortRule.{PortRule}
use Rattle.filter_db.specs.declared.place.Place.TheVariants.{Local, Remote}
use Rattle.filter_db.specs.Place.{same_place}
use Rattle.decapsulate.specs.declared.arrived.Arrived.{Arrived}
use Rattle.overlay.specs.Overlay.{Overlay, segment_at}
use Rattle.overlay.specs.declared.underlay.segment.Segment.{Segment}
use Rattle.overlay.specs.declared.underlay.settings.Underlay.{Underlay}
use Rattle.wire.specs.Refusal.{as_refused}
use Rattle.wire.specs.declared.ether.reason.Reason.TheVariants.{Runt, PortDown, BadSource, Reserved, CutTag, BadVid, FrameType, NoSegment, NotMember, NotTunnel, BadUdp, ZeroSum, BadUdpSum}
use Rattle.wire.specs.declared.ip_udp.addr.Addr.{Addr}
use Rattle.wire.specs.declared.ip_udp.addr.Addr.TheVariants.{V4, V6}
use Rattle.wire.specs.declared.ip_udp.udp_view.SumState.{SumState}
use Rattle.wire.specs.declared.ip_udp.udp_view.SumState.TheVariants.{Zero, Right, Partial, Wrong}
use Rattle.decapsulate.specs.Arrival.{
  Packet,
  packet_in,
  kind_to,
  vni_of,
  sum_of,
  is_zero,
  needs_sum,
  is_wrong,
  frame_reasons,
  packet_reasons,
  data_reasons,
  carried_reasons,
  capture_reasons as record_reasons,
  arrival_by,
  arrival_of,
}
use Rattle.endpoint_core.specs.Arrival.{Arrival}
use Rattle.endpoint_core.specs.Arrival.{capture_reasons, entered, let_in, tunnelled, came_at, came_by}
use Rattle.endpoint_core.proofs.LetIn.{let_in-segment, let_in-ok}
use Rattle.wire.proofs.FirstLemmas.{unless-ok, same_Ok}
use Rattle.noninterference.specs.Alone.{is_segment}
use Rattle.noninterference.proofs.Arriving.{found, found_for, arrives-found, arrival-found}
use Rattle.noninterference.proofs.Coming.{by-entered, by-tunnelled, let_in-own, came_at-same}
use Rattle.noninterference.proofs.Entering.{segment_entered}
use Rattle.noninterference.proofs.Finding.{found_at}
use Rattle.tenants_apart.specs.Own.{common, segment_met}

-- ---- by a local port

-- whether a frame whose body begins with a tag is let in changes nothing of that
met-unless : (o : Option Refused) (r s : Result Arrival Refused) → segment_met r ≡ segment_met s → segment_met (unless o r) ≡ segment_met (unless o s)
met-unless (Some refused) r s same = refl
met-unless None r s same = same

met-same : (P : Ports) (S T : Overlay) (port original : ℕ) (b : List ℕ) → segment_met (came_at P S port original b) ≡ segment_met (came_at P T port original b)
unfolding came_at
met-same P S T port original b =
    met-unless (first (capture_reasons original b)) (let_in S (entered port (enters P port b))) (let_in T (entered port (enters P port b)))
    (let_in-segment S (entered port (enters P port b)) ∙ sym (let_in-segment T (entered port (enters P port b))))

frame-listed : (vid : ℕ) (P Q : Ports) (S T : Overlay) → P.ports ≡ Q.ports → members_at P vid ≡ members_at Q vid → (port original : ℕ) (b : List ℕ) → is_segment vid (segment_met (came_at P S port original b)) ≡ is_segment vid (segment_met (came_at Q T port original b))
frame-listed vid P Q S T ports members port original b =
    ap (is_segment vid) (met-same P S T port original b)
    ∙ by (is_segment vid (segment_met (came_at P T port original b))) (is_segment vid (segment_met (came_at Q T port original b))) refl refl
  where
    by : (c d : Bool) → is_segment vid (segment_met (came_at P T port original b)) ≡ c → is_segment vid (segment_met (came_at Q T port original b)) ≡ d → c ≡ d
    by true d is other = sym is ∙ sym (ap (λ (r : Result Arrival Refused). is_segment vid (segment_met r)) (came_at-same vid P Q T T ports members refl port original b is)) ∙ other
    by false true is other = sym is ∙ ap (λ (r : Result Arrival Refused). is_segment vid (segment_met r)) (came_at-same vid Q P T T (sym ports) (sym members) refl port original b other) ∙ other
    by false false is other = refl

-- of the ports a frame asks for that at which it comes
entering_at : PortRule → FinMap nat_cmp Members → ℕ → List ℕ → Result (ℕ × Frame) Refused
entering_at rule segments port b =
    let w = tag_vid b in
    let v = segment_vid rule.pvid w in
    unless (first
    ((nowhere Runt, nat_lt (length b) 14)
    ∷ (nowhere PortDown, not rule.up)
    ∷ (nowhere BadSource, is_group (source b))
    ∷ (nowhere Reserved, is_reserved (destination b))
    ∷ (nowhere CutTag, is_cut b)
    ∷ (nowhere BadVid, w == 4095)
    ∷ (nowhere FrameType, not (accepts rule.accept w))
    ∷ (nowhere NoSegment, not (is_some (get segments v)))
    ∷ (within v NotMember, is_none (option_and_then (λ (m : Members). get m port) (get segments v)))
    ∷ [])) (Ok (v, frame_in b))

enters-at : (P : Ports) (port : ℕ) (b : List ℕ) → enters P port b ≡ entering_at (port_at P port) P.segments port b
unfolding entering_at
enters-at P port b = refl

at-port : (P Q : Ports) (S : Overlay) (port : ℕ) → port_at P port ≡ port_at Q port → P.segments ≡ Q.segments → (original : ℕ) (b : List ℕ) → came_at P S port original b ≡ came_at Q S port original b
unfolding came_at
at-port P Q S port rule segments original b =
    ap (λ (r : Result (ℕ × Frame) Refused). unless (first (capture_reasons original b)) (let_in S (entered port r)))
    (enters-at P port b ∙ (λ i. entering_at (rule i) (segments i) port b) ∙ sym (enters-at Q port b))

-- so a frame is of the segment in both or in neither
pub frame-own : (vid : ℕ) (P Q : Ports) (S T : Overlay) (port : ℕ) → port_at P port ≡ port_at Q port → members_at P vid ≡ members_at Q vid → (original : ℕ) (b : List ℕ) → is_segment vid (segment_met (came_at P S port original b)) ≡ is_segment vid (segment_met (came_at Q T port original b))
frame-own vid P Q S T port rule members original b =
    let R : Ports = record { ports = Q.ports; segments = P.segments } in
    ap (λ (r : Result Arrival Refused). is_segment vid (segment_met r)) (at-port P R S port rule refl original b)
    ∙ frame-listed vid R Q S T refl members port original b

-- ---- in both

-- what enters the segment or is refused in it, by how its frames leave at the port
abbrev by_member : ℕ → Option Egress → Frame → Result (ℕ × Frame) Refused
by_member vid None f = Err (within vid NotMember)
by_member vid (Some egress) f = Ok (vid, f)

past-rows : (vid : ℕ) (rows : List (Refused × Bool)) → AllByRecursion (λ row. is_segment vid row.0.segment ≡ false) rows → (last : Refused × Bool) (r : Result (ℕ × Frame) Refused)
    → is_segment vid (segment_entered (unless (first (rows ++ last ∷ [])) r)) ≡ true → unless (first (rows ++ last ∷ [])) r ≡ unless (first (last ∷ [])) r
past-rows vid [] all last r own = refl
past-rows vid (row ∷ rows) all last r own = by row.1 (past-rows vid rows all.1 last r) own
  where
    by : (c : Bool) → (is_segment vid (segment_entered (unless (first (rows ++ last ∷ [])) r)) ≡ true → unless (first (rows ++ last ∷ [])) r ≡ unless (first (last ∷ [])) r)
        → is_segment vid (segment_entered (unless (cond c (Some row.0) (first (rows ++ last ∷ []))) r)) ≡ true → unless (cond c (Some row.0) (first (rows ++ last ∷ []))) r ≡ unless (first (last ∷ [])) r
    by true rest is = absurd (false≢true (sym all.0 ∙ is))
    by false rest is = rest is

own-last : (vid v : ℕ) (o : Option Egress) (f : Frame) → is_segment vid (segment_entered (unless (first ((within v NotMember, is_none o) ∷ [])) (Ok (v, f)))) ≡ true
    → (vid ≡ v) × (unless (first ((within v NotMember, is_none o) ∷ [])) (Ok (v, f)) ≡ by_member v o f)
own-last vid v None f own = (eqb-true vid v own, refl)
own-last vid v (Some egress) f own = (eqb-true vid v own, refl)

own-entered : (vid : ℕ) (P : Ports) (port : ℕ) (b : List ℕ) → is_segment vid (segment_entered (enters P port b)) ≡ true → enters P port b ≡ by_member vid (egress_at P vid port) (frame_in b)
own-entered vid P port b own =
    let v = vid_at P port b in
    let rows : List (Refused × Bool) =
    text_reasons P port b
    ++ (nowhere BadVid, tag_vid b == 4095)
    ∷ (nowhere FrameType, not (accepts (port_at P port).accept (tag_vid b)))
    ∷ (nowhere NoSegment, not (has_segment P v))
    ∷ [] in
    let last : Refused × Bool = (within v NotMember, is_none (egress_at P v port)) in
    let whole : enters P port b ≡ unless (first (last ∷ [])) (Ok (v, frame_in b)) =
    past-rows vid rows (refl, (refl, (refl, (refl, (refl, (refl, (refl, (refl, tt)))))))) last (Ok (v, frame_in b)) own in
    let it = own-last vid v (egress_at P v port) (frame_in b) (sym (ap (λ (r : Result (ℕ × Frame) Refused). is_segment vid (segment_entered r)) whole) ∙ own) in
    whole ∙ it.1 ∙ ap (λ (k : ℕ). by_member k (egress_at P k port) (frame_in b)) (sym it.0)

-- behind reasons of no segment
behind-rows : (vid : ℕ) (rows : List (Refused × Bool)) → AllByRecursion (λ row. is_segment vid row.0.segment ≡ false) rows → (r : Result Arrival Refused) → is_segment vid (segment_met (unless (first rows) r)) ≡ true → is_segment vid (segment_met r) ≡ true
behind-rows vid [] all r own = own
behind-rows vid (row ∷ rows) all r own = by row.1 (behind-rows vid rows all.1 r) own
  where
    by : (c : Bool) → (is_segment vid (segment_met (unless (first rows) r)) ≡ true → is_segment vid (segment_met r) ≡ true) → is_segment vid (segment_met (unless (cond c (Some row.0) (first rows)) r)) ≡ true → is_segment vid (segment_met r) ≡ true
    by true rest is = absurd (false≢true (sym all.0 ∙ is))
    by false rest is = rest is

met-entered : (vid : ℕ) (P : Ports) (S : Overlay) (port original : ℕ) (b : List ℕ) → is_segment vid (segment_met (came_at P S port original b)) ≡ true → is_segment vid (segment_entered (enters P port b)) ≡ true
unfolding came_at
met-entered vid P S port original b own =
    let inside = behind-rows vid (capture_reasons original b) (refl, (refl, tt)) (let_in S (entered port (enters P port b))) own in
    sym (ap (is_segment vid) (by-entered port (enters P port b))) ∙ sym (ap (is_segment vid) (let_in-segment S (entered port (enters P port b)))) ∙ inside

-- what comes to the segment by a port, or is refused in it, in both
pub came_at-own : (vid : ℕ) (P Q : Ports) (S T : Overlay) → members_at P vid ≡ members_at Q vid → segment_at S vid ≡ segment_at T vid → (port original : ℕ) (b : List ℕ)
    → is_segment vid (segment_met (came_at P S port original b)) ≡ true → is_segment vid (segment_met (came_at Q T port original b)) ≡ true → came_at Q T port original b ≡ came_at P S port original b
unfolding came_at
came_at-own vid P Q S T members here port original b own other =
    let in_P = met-entered vid P S port original b own in
    let in_Q = met-entered vid Q T port original b other in
    let egress : egress_at Q vid port ≡ egress_at P vid port = ap (λ (o : Option Members). option_and_then (λ m. get m port) o) (sym members) in
    let same : enters Q port b ≡ enters P port b =
    own-entered vid Q port b in_Q ∙ ap (λ (o : Option Egress). by_member vid o (frame_in b)) egress ∙ sym (own-entered vid P port b in_P) in
    ap (λ (r : Result (ℕ × Frame) Refused). unless (first (capture_reasons original b)) (let_in T (entered port r))) same
    ∙ ap (λ (r : Result Arrival Refused). unless (first (capture_reasons original b)) r) (let_in-own vid S T here (entered port (enters P port b)) (ap (is_segment vid) (by-entered port (enters P port b)) ∙ in_P))

-- it comes from a member port
entered-from : (vid port : ℕ) (o : Option Egress) (f : Frame) (x : Arrival) → entered port (by_member vid o f) ≡ Ok x → (x.from ≡ Local port) × IsSome o
entered-from vid port None f x h = absurd cc
entered-from vid port (Some egress) f x h = (sym (ap (λ (c : Arrival). c.from) (same_Ok (let made : Arrival = record { vid = vid; from = Local port; frame = f } in made) x h)), refl)

pub came-from : (vid : ℕ) (P : Ports) (S : Overlay) (port original : ℕ) (b : List ℕ) (x : Arrival) → came_at P S port original b ≡ Ok x → is_segment vid (segment_met (came_at P S port original b)) ≡ true → (x.from ≡ Local port) × IsSome (egress_at P vid port)
unfolding came_at
came-from vid P S port original b x is own =
    let inside = unless-ok (first (capture_reasons original b)) (let_in S (entered port (enters P port b))) x is in
    let it = (let_in-ok S (entered port (enters P port b)) x inside.1).0 in
    entered-from vid port (egress_at P vid port) (frame_in b) x (sym (ap (entered port) (own-entered vid P port b (met-entered vid P S port original b own))) ∙ it)

-- ---- by a tunnel

-- what is found for a packet stands there
found-there : (S : Overlay) (d : List ℕ) (kind : Option Tunnel) (e : ℕ × Segment) → found_for S d kind ≡ Some e → segment_at S e.0 ≡ Some e.1
found-there S d None e is = absurd (none-some e is)
found-there S d (Some kind) e is = found_at S kind (vni_of kind d) e is

found-stands : (S : Overlay) (b : List ℕ) (e : ℕ × Segment) → found S b ≡ Some e → segment_at S e.0 ≡ Some e.1
unfolding found
found-stands S b e is = found-there S (data_of (packet_in b).payload) (kind_to S.underlay (packet_in b)) e is

-- where it is the same segment in both, the same is found
found-both : (vid : ℕ) (S T : Overlay) → segment_at S vid ≡ segment_at T vid → (b : List ℕ) → is_segment vid (option_map (λ e. e.0) (found S b)) ≡ true → is_segment vid (option_map (λ e. e.0) (found T b)) ≡ true → found T b ≡ found S b
found-both vid S T here b own other = by (found S b) (found T b) refl refl own other
  where
    by : (o p : Option (ℕ × Segment)) → found S b ≡ o → found T b ≡ p → is_segment vid (option_map (λ e. e.0) o) ≡ true → is_segment vid (option_map (λ e. e.0) p) ≡ true → found T b ≡ found S b
    by None p is was in_S in_T = absurd (false≢true in_S)
    by (Some e) None is was in_S in_T = absurd (false≢true in_T)
    by (Some e) (Some f) is was in_S in_T =
        let e_at : vid ≡ e.0 = eqb-true vid e.0 in_S in
        let f_at : vid ≡ f.0 = eqb-true vid f.0 in_T in
        let key : f.0 ≡ e.0 = sym f_at ∙ e_at in
        let value : f.1 ≡ e.1 = same_Some f.1 e.1 (sym (found-stands T b f was) ∙ sym (ap (segment_at T) f_at) ∙ sym here ∙ ap (segment_at S) e_at ∙ found-stands S b e is) in
        was ∙ (λ i. Some (key i, value i)) ∙ sym is

-- what comes to the segment was found for it
pub met-found : (vid : ℕ) (S : Overlay) (original : ℕ) (b : List ℕ) → is_segment vid (segment_met (came_by S original b)) ≡ true → is_segment vid (option_map (λ e. e.0) (found S b)) ≡ true
unfolding came_by
met-found vid S original b own = arrives-found vid S original b (sym (ap (is_segment vid) (by-tunnelled (arrival_of S original b))) ∙ own)

-- ---- of the underlay a packet is read by what all segments go by

abbrev plain : Overlay → Overlay
plain S = record S { underlay = common S.underlay }

needs-plain : (U : Underlay) (a : Addr) → needs_sum U a ≡ needs_sum (common U) a
needs-plain U (V4 octets) = refl
needs-plain U (V6 octets) = refl

wrong-plain : (U : Underlay) (state : SumState) → is_wrong U state ≡ is_wrong (common U) state
wrong-plain U Zero = refl
wrong-plain U Right = refl
wrong-plain U Partial = refl
wrong-plain U Wrong = refl

carried-plain : (U : Underlay) (p : Packet) → carried_reasons U p ≡ carried_reasons (common U) p
carried-plain U p = λ i.
    packet_reasons U p ++ (((BadUdp, is_bad_udp p.payload) ∷ (NotTunnel, is_none (kind_to U p)) ∷ (ZeroSum, is_zero (sum_of p) && needs-plain U p.source i) ∷ (BadUdpSum, wrong-plain U (sum_of p) i) ∷ [])
    ++ data_reasons U.known (kind_to U p) (data_of p.payload))

by-plain : (S : Overlay) (kind : Option Tunnel) (a b : Addr) (d : List ℕ) → arrival_by S kind a b d ≡ arrival_by (plain S) kind a b d
by-plain S None a b d = refl
by-plain S (Some kind) a b d = refl

arrival-plain : (S : Overlay) (original : ℕ) (b : List ℕ) → arrival_of S original b ≡ arrival_of (plain S) original b
arrival-plain S original b =
    let p = packet_in b in
    λ i. unless (as_refused None (first (record_reasons original b)))
    (unless (as_refused None (first (frame_reasons b ++ carried-plain S.underlay p i))) (by-plain S (kind_to S.underlay p) p.source p.destination (data_of p.payload) i))

found-plain : (S : Overlay) (b : List ℕ) → found S b ≡ found (plain S) b
unfolding found
found-plain S b = refl

-- where the same is found for it, a packet is read alike
pub came_by-found : (vid : ℕ) (S T : Overlay) → common S.underlay ≡ common T.underlay → segment_at S vid ≡ segment_at T vid → (original : ℕ) (b : List ℕ) → is_segment vid (option_map (λ e. e.0) (found S b)) ≡ true → is_segment vid (option_map (λ e. e.0) (found T b)) ≡ true → came_by T original b ≡ came_by S original b
unfolding came_by
came_by-found vid S T underlay here original b in_S in_T =
    ap tunnelled
    (arrival-plain T original b
    ∙ arrival-found (plain S) (plain T) underlay original b (sym (found-plain T b) ∙ found-both vid S T here b in_S in_T ∙ found-plain S b)
    ∙ sym (arrival-plain S original b))

-- what arrives in the segment, or is refused in it, in both
pub came_by-own : (vid : ℕ) (S T : Overlay) → common S.underlay ≡ common T.underlay → segment_at S vid ≡ segment_at T vid → (original : ℕ) (b : List ℕ) → is_segment vid (segment_met (came_by S original b)) ≡ true → is_segment vid (segment_met (came_by T original b)) ≡ true → came_by T original b ≡ came_by S original b
came_by-own vid S T underlay here original b own other = came_by-found vid S T underlay here original b (met-found vid S original b own) (met-found vid T original b other)

-- it comes from a remote
tunnelled-from : (r : Result Arrived Refused) (x : Arrival) → tunnelled r ≡ Ok x → (q : ℕ) → same_place x.from (Local q) ≡ false
tunnelled-from (Ok y) x h q = sym (ap (λ (c : Arrival). same_place c.from (Local q)) (same_Ok (let made : Arrival = record { vid = y.vid; from = Remote y.from.0 y.from.1; frame = y.frame } in made) x h))
tunnelled-from (Err refused) x h q = absurd cc

pub tunnel-from : (S : Overlay) (original : ℕ) (b : List ℕ) (x : Arrival) → came_by S original b ≡ Ok x → (q : ℕ) → same_place x.from (Local q) ≡ false
unfolding came_by
tunnel-from S original b x is q = tunnelled-from (arrival_of S original b) x is q
