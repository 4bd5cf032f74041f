-- What comes to a segment is read by what that segment sees.
use Rattle.std.proofs.Common.{◌≡◌, ℕ, Bool, true, false, cond, List, [], ◌∷◌, Some, Result, Ok, Err, refl, sym, ap, ◌∙◌}
use Rattle.std.proofs.lemmas.Bool.{eqb-true}
use Rattle.std.specs.List.{AllByRecursion}
use Rattle.wire.specs.First.{first, unless}
use Rattle.wire.specs.Frame.{Frame}
use Rattle.wire.specs.declared.ether.reason.Refused.{Refused}
use Rattle.wire.proofs.FirstLemmas.{same_Ok}
use Rattle.overlay.specs.Ports.{Ports, members_at}
use Rattle.overlay.specs.Ingress.{enters}
use Rattle.overlay.specs.Overlay.{Overlay, segment_at}
use Rattle.decapsulate.specs.declared.arrived.Arrived.{Arrived}
use Rattle.decapsulate.specs.Arrival.{arrival_of}
use Rattle.endpoint_core.specs.Among.{segment_of}
use Rattle.endpoint_core.specs.Arrival.{Arrival}
use Rattle.endpoint_core.specs.Arrival.{capture_reasons, entered, let_in, tunnelled, came_at, came_by}
use Rattle.endpoint_core.proofs.LetIn.{let_in-segment, let_in-same}
use Rattle.noninterference.specs.Alone.{is_segment}
use Rattle.noninterference.proofs.Entering.{segment_entered, enters-same}
use Rattle.noninterference.proofs.Arriving.{segment_arrived, arrival-same}
use Rattle.noninterference.proofs.Finding.{tunnels_at}

pub by-entered : (port : ℕ) (r : Result (ℕ × Frame) Refused) → segment_of (entered port r) ≡ segment_entered r
by-entered port (Ok found) = refl
by-entered port (Err refused) = refl

pub by-tunnelled : (r : Result Arrived Refused) → segment_of (tunnelled r) ≡ segment_arrived r
by-tunnelled (Ok x) = refl
by-tunnelled (Err refused) = refl

-- of the refusals before it none is told of the segment
unless-same : (vid : ℕ) (r s : Result Arrival Refused) → (is_segment vid (segment_of r) ≡ true → s ≡ r) → (rows : List (Refused × Bool)) → AllByRecursion (λ row. is_segment vid row.0.segment ≡ false) rows → is_segment vid (segment_of (unless (first rows) r)) ≡ true → unless (first rows) s ≡ unless (first rows) r
unless-same vid r s same [] all own = same own
unless-same vid r s same (row ∷ rows) all own = by row.1 (unless-same vid r s same rows all.1) own
  where
    by : (b : Bool) → (is_segment vid (segment_of (unless (first rows) r)) ≡ true → unless (first rows) s ≡ unless (first rows) r) → is_segment vid (segment_of (unless (cond b (Some row.0) (first rows)) r)) ≡ true → unless (cond b (Some row.0) (first rows)) s ≡ unless (cond b (Some row.0) (first rows)) r
    by true rest is = refl
    by false rest is = rest is

-- what comes to the segment is let in alike
pub let_in-own : (vid : ℕ) (S T : Overlay) → segment_at S vid ≡ segment_at T vid → (r : Result Arrival Refused) → is_segment vid (segment_of r) ≡ true → let_in T r ≡ let_in S r
let_in-own vid S T here (Err refused) own = refl
let_in-own vid S T here (Ok x) own = let_in-same S T (Ok x) here-of
  where
    vid-is : (y : Arrival) → ◌≡◌ {A = Result Arrival Refused} (Ok x) (Ok y) → vid ≡ y.vid
    vid-is y same = eqb-true vid x.vid own ∙ ap (λ (c : Arrival). c.vid) (same_Ok x y same)

    here-of : (y : Arrival) → ◌≡◌ {A = Result Arrival Refused} (Ok x) (Ok y) → segment_at S y.vid ≡ segment_at T y.vid
    here-of y same = ap (λ (v : ℕ). segment_at S v) (sym (vid-is y same)) ∙ here ∙ ap (λ (v : ℕ). segment_at T v) (vid-is y same)

-- by a local port
pub came_at-same : (vid : ℕ) (P Q : Ports) (S T : Overlay) → P.ports ≡ Q.ports → members_at P vid ≡ members_at Q vid → segment_at S vid ≡ segment_at T vid → (port original : ℕ) (b : List ℕ) → is_segment vid (segment_of (came_at P S port original b)) ≡ true → came_at Q T port original b ≡ came_at P S port original b
unfolding came_at
came_at-same vid P Q S T ports members here port original b own =
    unless-same vid (let_in S (entered port (enters P port b))) (let_in T (entered port (enters Q port b))) same
    (capture_reasons original b) (refl, (refl, tt)) own
  where
    same : is_segment vid (segment_of (let_in S (entered port (enters P port b)))) ≡ true → let_in T (entered port (enters Q port b)) ≡ let_in S (entered port (enters P port b))
    same is =
        let it = sym (ap (is_segment vid) (let_in-segment S (entered port (enters P port b)))) ∙ is in
        ap (λ (r : Result (ℕ × Frame) Refused). let_in T (entered port r)) (enters-same vid P Q ports members port b (sym (ap (is_segment vid) (by-entered port (enters P port b))) ∙ it))
        ∙ let_in-own vid S T here (entered port (enters P port b)) it

-- by a tunnel
pub came_by-same : (vid : ℕ) (S T : Overlay) → S.underlay ≡ T.underlay → ((w : ℕ) → tunnels_at S w ≡ tunnels_at T w) → segment_at S vid ≡ segment_at T vid → (original : ℕ) (b : List ℕ) → is_segment vid (segment_of (came_by S original b)) ≡ true → came_by T original b ≡ came_by S original b
unfolding came_by
came_by-same vid S T underlay alike here original b own =
    ap tunnelled (arrival-same vid S T underlay alike here original b (sym (ap (is_segment vid) (by-tunnelled (arrival_of S original b))) ∙ own))
