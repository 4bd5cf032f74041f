use Rattle.std.proofs.Common.{◌≡◌, ◌∙◌, ◌<◌, ap, sym, refl, arith, ℕ, None, Some, List, Option, set, get_or, length}
use Rattle.std.proofs.lemmas.List.{length-set}
use Rattle.std.specs.FinMap.{get, insert}
use Rattle.overlay.specs.Seats.{Seats, seated}
use Rattle.overlay.specs.declared.underlay.places.Row.{Row}
use Rattle.overlay.proofs.RoomsLemmas.{rooms_put}
use Rattle.overlay.proofs.SeatLemmas.{Keeps, seated-put, keeps-put}
use Rattle.overlay.proofs.underlay.places.SegmentPlaces.put.Goals as goal

free : (c : goal.After-self-3-1) → get_or c.self.inside.rows.items c.free_place-place.result None ≡ None
free c = ap (λ (l : List (Option Row)). get_or l c.free_place-place.result None) (sym c.deref.ensures.value) ∙ c.free_place-place.ensures.free

pub invariant_of-self : goal.invariant_of-self
invariant_of-self c =
    let rows = c.self.inside.rows.items in
    let index = c.self.inside.index.items in
    let j = c.free_place-place.result in
    let row : Row = record { vid = c.args.vid; segment = c.args.segment; heads = c.args.heads } in
    let same : c.from.result ≡ c.args.vid = omega arith in
    let new = ap (λ (s : Seats). get s.segments c.args.vid) c.self.view_is ∙ c.requires.new in
    let lt : j < length rows = omega (arith, ap length c.deref.ensures.value, c.free_place-place.ensures.there) in
    let kept : Keeps (λ r. r.vid) (λ r. r.segment) (set rows j (Some row)) (set index c.from.result (Some j)) = rw same (keeps-put (λ r. r.vid) (λ r. r.segment) rows index c.args.vid j row (c.self.invariant.0, c.self.invariant.1, c.self.invariant.2, c.self.invariant.3) refl (free c) lt (omega arith) new) in
    (kept.0, kept.1, kept.2, kept.3, rooms_put (λ r. r.segment.flood) c.self.inside.flood rows c.self.inside.rooms.items j row c.self.invariant.4 (free c) lt)

pub returns : goal.returns
returns c =
    let rows = c.self.inside.rows.items in
    let index = c.self.inside.index.items in
    let j = c.free_place-place.result in
    let row : Row = record { vid = c.args.vid; segment = c.args.segment; heads = c.args.heads } in
    let same : c.from.result ≡ c.args.vid = omega arith in
    let lt : j < length rows = omega (arith, ap length c.deref.ensures.value, c.free_place-place.ensures.there) in
    let lt' : c.args.vid < length index = omega arith in
    ap (λ (k : ℕ). let s : Seats = record { segments = seated (λ r. r.segment) (set rows j (Some row)) (set index k (Some j)); heads = seated (λ r. r.heads) (set rows j (Some row)) (set index k (Some j)); most = length (set rows j (Some row)); flood = c.self.inside.flood } in s) same
    ∙ rw (
      seated-put (λ r. r.vid) (λ r. r.segment) rows index c.args.vid j row c.self.invariant.2 (free c) lt lt',
      seated-put (λ r. r.vid) (λ r. r.heads) rows index c.args.vid j row c.self.invariant.2 (free c) lt lt',
      length-set rows j (Some row),
    ) (ap (λ (s : Seats). let n : Seats = record s { segments = insert s.segments c.args.vid c.args.segment; heads = insert s.heads c.args.vid c.args.heads } in n) c.self.view_is)
