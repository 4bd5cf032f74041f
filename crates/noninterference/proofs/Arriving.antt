-- A packet that arrives in a segment is read by what that segment sees of the tunnels.
use Rattle.std.proofs.Common.{◌≡◌, ℕ, ◌==◌, Bool, true, false, List, Option, Some, None, Result, Ok, Err, refl, sym, ap, ◌∙◌}
use Rattle.std.specs.Option.{option_map, option_and_then}
use Rattle.std.specs.FinMap.{empty}
use Rattle.std.proofs.lemmas.Bool.{false≢true}
use Rattle.wire.specs.First.{first, unless}
use Rattle.wire.specs.Refusal.{as_refused}
use Rattle.wire.specs.declared.ether.reason.Reason.{Reason}
use Rattle.wire.specs.declared.ether.reason.Reason.TheVariants.{NotTunnel}
use Rattle.wire.specs.declared.ether.reason.Refused.{Refused}
use Rattle.wire.specs.declared.ip_udp.addr.Tunnel.{Tunnel}
use Rattle.overlay.specs.Overlay.{Overlay, segment_at, segment_by}
use Rattle.overlay.specs.declared.underlay.segment.Segment.{Segment}
use Rattle.overlay.specs.declared.underlay.settings.Underlay.{Underlay}
use Rattle.decapsulate.specs.declared.arrived.Arrived.{Arrived}
use Rattle.wire.specs.Udp.{data_of}
use Rattle.decapsulate.specs.Arrival.{Packet, packet_in, kind_to, vni_of, inner_of, inner_reasons, outer_reasons, capture_reasons, arrival_in, arrival_by, arrival_of}
use Rattle.noninterference.specs.Alone.{is_segment}
use Rattle.noninterference.proofs.Finding.{tunnels_at, found-same}

-- ---- what the underlay alone says

abbrev with_underlay : Underlay → Overlay
with_underlay U = record { underlay = U; segments = empty }

-- what a packet brings to the segment that was found for it
abbrev brought : Option Tunnel → Option (ℕ × Segment) → Packet → Result Arrived Refused
brought None found p = Err (record { segment = None; reason = NotTunnel })
brought (Some kind) found p = arrival_in found kind p.source p.destination (inner_of kind (data_of p.payload))

arriving : Underlay → Option (ℕ × Segment) → ℕ → List ℕ → Result Arrived Refused
arriving U found original b =
    unless (as_refused None (first (capture_reasons original b)))
    (unless (as_refused None (first (outer_reasons (with_underlay U) b))) (brought (kind_to U (packet_in b)) found (packet_in b)))

-- the segment that is found for the data d at a port of a kind
abbrev pub found_for : Overlay → List ℕ → Option Tunnel → Option (ℕ × Segment)
found_for S d kind = option_and_then (λ k. segment_by S k (vni_of k d)) kind

unfoldable pub found : Overlay → List ℕ → Option (ℕ × Segment)
found S b = found_for S (data_of (packet_in b).payload) (kind_to S.underlay (packet_in b))

by-brought : (S : Overlay) (p : Packet) (kind : Option Tunnel) → arrival_by S kind p.source p.destination (data_of p.payload) ≡ brought kind (found_for S (data_of p.payload) kind) p
by-brought S p None = refl
by-brought S p (Some kind) = refl

arrival_of-is : (S : Overlay) (original : ℕ) (b : List ℕ) → arrival_of S original b ≡ arriving S.underlay (found S b) original b
unfolding arriving found
arrival_of-is S original b =
    ap (λ (r : Result Arrived Refused). unless (as_refused None (first (capture_reasons original b))) (unless (as_refused None (first (outer_reasons S b))) r))
    (by-brought S (packet_in b) (kind_to S.underlay (packet_in b)))

-- ---- the segment of what arrives

abbrev pub segment_arrived : Result Arrived Refused → Option ℕ
segment_arrived (Ok x) = Some x.vid
segment_arrived (Err refused) = refused.segment

-- why nothing arrives is told of no segment
nowhere_unless : (vid : ℕ) (o : Option Reason) (r : Result Arrived Refused) → is_segment vid (segment_arrived r) ≡ false → is_segment vid (segment_arrived (unless (as_refused None o) r)) ≡ false
nowhere_unless vid (Some reason) r other = refl
nowhere_unless vid None r other = other

within_unless : (vid v : ℕ) (o : Option Reason) (x : Arrived) → x.vid ≡ v → (vid == v) ≡ false → is_segment vid (segment_arrived (unless (as_refused (Some v) o) (Ok x))) ≡ false
within_unless vid v (Some reason) x same other = other
within_unless vid v None x same other = ap (λ (k : ℕ). vid == k) same ∙ other

not_brought : (vid : ℕ) (kind : Option Tunnel) (o : Option (ℕ × Segment)) (p : Packet) → is_segment vid (option_map (λ e. e.0) o) ≡ false → is_segment vid (segment_arrived (brought kind o p)) ≡ false
not_brought vid None o p other = refl
not_brought vid (Some kind) None p other = refl
not_brought vid (Some kind) (Some e) p other = within_unless vid e.0 (first (inner_reasons e.1 kind p.source p.destination (inner_of kind (data_of p.payload)))) _ refl other

not_arriving : (vid : ℕ) (U : Underlay) (o : Option (ℕ × Segment)) (original : ℕ) (b : List ℕ) → is_segment vid (option_map (λ e. e.0) o) ≡ false → is_segment vid (segment_arrived (arriving U o original b)) ≡ false
unfolding arriving
not_arriving vid U o original b other =
    nowhere_unless vid (first (capture_reasons original b)) _ (nowhere_unless vid (first (outer_reasons (with_underlay U) b)) _ (not_brought vid (kind_to U (packet_in b)) o (packet_in b) other))

-- ---- the same in two settings

same_for : (vid : ℕ) (S T : Overlay) → ((w : ℕ) → tunnels_at S w ≡ tunnels_at T w) → segment_at S vid ≡ segment_at T vid → (d : List ℕ) (kind : Option Tunnel) → is_segment vid (option_map (λ e. e.0) (found_for S d kind)) ≡ true → found_for T d kind ≡ found_for S d kind
same_for vid S T alike here d None own = refl
same_for vid S T alike here d (Some kind) own = found-same vid S T alike here kind (vni_of kind d) own

same_found : (vid : ℕ) (S T : Overlay) → S.underlay ≡ T.underlay → ((w : ℕ) → tunnels_at S w ≡ tunnels_at T w) → segment_at S vid ≡ segment_at T vid → (b : List ℕ) → is_segment vid (option_map (λ e. e.0) (found S b)) ≡ true → found T b ≡ found S b
unfolding found
same_found vid S T underlay alike here b own =
    ap (λ (U : Underlay). found_for T (data_of (packet_in b).payload) (kind_to U (packet_in b))) (sym underlay)
    ∙ same_for vid S T alike here (data_of (packet_in b).payload) (kind_to S.underlay (packet_in b)) own

-- what arrives in the segment or is refused in it was found for it
pub arrives-found : (vid : ℕ) (S : Overlay) (original : ℕ) (b : List ℕ) → is_segment vid (segment_arrived (arrival_of S original b)) ≡ true → is_segment vid (option_map (λ e. e.0) (found S b)) ≡ true
arrives-found vid S original b own = by (is_segment vid (option_map (λ e. e.0) (found S b))) refl
  where
    by : (c : Bool) → is_segment vid (option_map (λ e. e.0) (found S b)) ≡ c → c ≡ true
    by true is = refl
    by false is =
        absurd (false≢true (sym (not_arriving vid S.underlay (found S b) original b is) ∙ sym (ap (λ (r : Result Arrived Refused). is_segment vid (segment_arrived r)) (arrival_of-is S original b)) ∙ own))

-- where the same is found for it, the same arrives
pub arrival-found : (S T : Overlay) → S.underlay ≡ T.underlay → (original : ℕ) (b : List ℕ) → found T b ≡ found S b → arrival_of T original b ≡ arrival_of S original b
arrival-found S T underlay original b same =
    arrival_of-is T original b ∙ (λ i. arriving (sym underlay i) (same i) original b) ∙ sym (arrival_of-is S original b)

-- what arrives in the segment or is refused in it
pub arrival-same : (vid : ℕ) (S T : Overlay) → S.underlay ≡ T.underlay → ((w : ℕ) → tunnels_at S w ≡ tunnels_at T w) → segment_at S vid ≡ segment_at T vid → (original : ℕ) (b : List ℕ) → is_segment vid (segment_arrived (arrival_of S original b)) ≡ true → arrival_of T original b ≡ arrival_of S original b
arrival-same vid S T underlay alike here original b own =
    arrival-found S T underlay original b (same_found vid S T underlay alike here b (arrives-found vid S original b own))
