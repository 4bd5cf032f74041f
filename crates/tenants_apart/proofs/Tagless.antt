-- What comes to a segment that takes no frame whose body begins with a tag begins with none.
use Rattle.std.proofs.Common.{◌≡◌, ℕ, Bool, true, false, ◌&&◌, List, Option, Some, None, Result, Ok, Err, refl, sym, ap, ◌∙◌, subst}
use Rattle.std.specs.Option.{option_map_or}
use Rattle.std.specs.Cmp.{nat_cmp_total}
use Rattle.std.specs.FinMap.{entries, entries_sorted, get-entries}
use Rattle.std.proofs.lemmas.Bool.{false≢true}
use Rattle.wire.specs.Ether.{has_tag}
use Rattle.wire.specs.First.{first}
use Rattle.wire.specs.Frame.{frame_of}
use Rattle.wire.specs.Tag.{begins_tag}
use Rattle.wire.specs.declared.ether.reason.Refused.{Refused}
use Rattle.wire.proofs.FirstLemmas.{NothingHolds-from, unless-ok, same_Ok}
use Rattle.wire.proofs.RefusalLemmas.{refused-ok}
use Rattle.overlay.specs.Ingress.{enters}
use Rattle.overlay.specs.Ports.{Ports}
use Rattle.wire.specs.Udp.{data_of}
use Rattle.wire.specs.declared.ip_udp.addr.Addr.{Addr}
use Rattle.wire.specs.declared.ip_udp.addr.Tunnel.{Tunnel}
use Rattle.overlay.specs.Overlay.{Overlay, segment_at, segment_by, has_tunnel, drops_tags, refuses_tags, refuses_tags_at}
use Rattle.overlay.specs.declared.underlay.segment.Segment.{Segment}
use Rattle.overlay.specs.declared.underlay.segment.TagRule.{TagRule}
use Rattle.overlay.specs.declared.underlay.segment.TagRule.TheVariants.{Drop, Pass, Never}
use Rattle.overlay.proofs.CountLemmas.{found_where}
use Rattle.decapsulate.specs.Arrival.{capture_reasons as packet_reasons, outer_reasons, inner_reasons, packet_in, kind_to, vni_of, inner_of, arrival_in, arrival_by, arrival, arrival_of}
use Rattle.decapsulate.specs.declared.arrived.Arrived.{Arrived}
use Rattle.endpoint_core.specs.Arrival.{Arrival}
use Rattle.endpoint_core.specs.Arrival.{capture_reasons, entered, let_in, tunnelled, came_at, came_by}
use Rattle.endpoint_core.proofs.LetIn.{let_in-ok}
use Rattle.tenants_apart.specs.Again.{IsTagless}

-- of two that aren't both so, the first isn't where the second is
first-not : (a b : Bool) → a && b ≡ false → b ≡ true → a ≡ false
first-not true b both is = absurd (false≢true (sym both ∙ is))
first-not false b both is = refl

-- ---- by a port

pub frame-tagless : (s : Ports) (S : Overlay) (port original : ℕ) (b : List ℕ) (came : Arrival) → came_at s S port original b ≡ Ok came → IsTagless S came.vid came.frame
unfolding came_at
frame-tagless s S port original b came h refuses =
    let inside = unless-ok (first (capture_reasons original b)) (let_in S (entered port (enters s port b))) came h in
    first-not (begins_tag came.frame.body) (refuses_tags_at S came.vid) (let_in-ok S (entered port (enters s port b)) came inside.1).1 refuses

-- ---- by a tunnel

-- such a segment drops them in its tunnels, too
drops-too : (g : Segment) → refuses_tags g ≡ true → drops_tags g ≡ true
drops-too g h = by g.tags h
  where
    by : (tags : TagRule) → refuses_tags (record g { tags = tags }) ≡ true → drops_tags (record g { tags = tags }) ≡ true
    by Drop k = refl
    by Pass k = absurd (false≢true k)
    by Never k = refl

in_segment : (S : Overlay) (o : Option (ℕ × Segment)) (kind : Tunnel) (a b : Addr) (e : List ℕ) (x : Arrived) → ((found : ℕ × Segment) → o ≡ Some found → segment_at S found.0 ≡ Some found.1) → arrival_in o kind a b e ≡ Ok x → IsTagless S x.vid x.frame
in_segment S None kind a b e x there h = absurd cc
in_segment S (Some found) kind a b e x there h =
    let u = refused-ok (Some found.0) (first (inner_reasons found.1 kind a b e)) (Ok made) x h in
    let i = NothingHolds-from (inner_reasons found.1 kind a b e) u.0 in
    subst (λ (y : Arrived). IsTagless S y.vid y.frame) (same_Ok made x u.1) (own i.1.1.1.1.1.0)
  where
    made : Arrived
    made = record { vid = found.0; from = (kind, a); frame = frame_of e }

    own : (has_tag e && drops_tags found.1) ≡ false → IsTagless S found.0 (frame_of e)
    own untagged refuses =
        let here : refuses_tags found.1 ≡ true = sym (ap (λ (g : Option Segment). option_map_or refuses_tags g false) (there found refl)) ∙ refuses in
        first-not (has_tag e) (drops_tags found.1) untagged (drops-too found.1 here)

by_kind : (S : Overlay) (o : Option Tunnel) (a b : Addr) (d : List ℕ) (x : Arrived) → arrival_by S o a b d ≡ Ok x → IsTagless S x.vid x.frame
by_kind S None a b d x h = absurd cc
by_kind S (Some kind) a b d x h =
    in_segment S (segment_by S kind (vni_of kind d)) kind a b (inner_of kind d) x
    (λ found is. get-entries S.segments found.0 ∙ (found_where nat_cmp_total (has_tunnel kind (vni_of kind d)) (entries S.segments) found (entries_sorted S.segments) is).0) h

arrived-tagless : (S : Overlay) (original : ℕ) (b : List ℕ) (x : Arrived) → arrival_of S original b ≡ Ok x → IsTagless S x.vid x.frame
arrived-tagless S original b x h =
    let p = packet_in b in
    let whole = refused-ok None (first (packet_reasons original b)) (arrival S b) x h in
    let inside = refused-ok None (first (outer_reasons S b)) (arrival_by S (kind_to S.underlay p) p.source p.destination (data_of p.payload)) x whole.1 in
    by_kind S (kind_to S.underlay p) p.source p.destination (data_of p.payload) x inside.1

tunnelled-from : (S : Overlay) (r : Result Arrived Refused) (came : Arrival) → tunnelled r ≡ Ok came → ((x : Arrived) → r ≡ Ok x → IsTagless S x.vid x.frame) → IsTagless S came.vid came.frame
tunnelled-from S (Ok x) came h tagless = subst (λ (c : Arrival). IsTagless S c.vid c.frame) (same_Ok _ came h) (tagless x refl)
tunnelled-from S (Err refused) came h tagless = absurd cc

pub packet-tagless : (S : Overlay) (original : ℕ) (b : List ℕ) (came : Arrival) → came_by S original b ≡ Ok came → IsTagless S came.vid came.frame
unfolding came_by
packet-tagless S original b came h = tunnelled-from S (arrival_of S original b) came h (arrived-tagless S original b)
