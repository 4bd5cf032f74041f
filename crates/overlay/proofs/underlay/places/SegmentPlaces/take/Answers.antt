use Rattle.std.proofs.Common.{◌≡◌, ◌<◌, ◌∙◌, ap, sym, refl, arith, ℕ, None, Some, Option, set, get_or, length}
use Rattle.std.proofs.lemmas.List.{length-set}
use Rattle.std.specs.Option.{option_map}
use Rattle.std.specs.FinMap.{get, remove}
use Rattle.overlay.specs.declared.underlay.places.Row.{Row}
use Rattle.overlay.specs.Seats.{Seats}
use Rattle.overlay.proofs.UnderlayFloodLemmas.{shown}
use Rattle.overlay.proofs.RoomsLemmas.{rooms_emptied}
use Rattle.overlay.proofs.SeatLemmas.{Keeps, leads-within, read_at, found, absent, seated-take, seated-nothing_there, keeps-taken}
use Rattle.overlay.proofs.underlay.places.SegmentPlaces.take.Goals as goal

-- the tunnels of a row's segment
tunnels_of : (x : Option Row) → option_map (λ r. r.segment.tunnels) x ≡ option_map (λ g. g.tunnels) (option_map (λ r. r.segment) x)
tunnels_of None = refl
tunnels_of (Some r) = refl

pub index_mut-requires-in-Some : goal.index_mut-requires-in-Some
index_mut-requires-in-Some c =
    let index = c.self.inside.index.items in
    let at : get_or index c.args.vid None ≡ Some c.in-Some.place = sym (read_at index c.from.result c.args.vid c.index_mut.result.now c.index_mut.ensures.value (omega arith) (omega arith)) ∙ sym c.take.ensures.value ∙ c.in-Some.is in
    omega (arith, leads-within (λ r. r.vid) c.self.inside.rows.items index c.args.vid c.in-Some.place c.self.invariant.2 at)

pub index_mut-requires-in-Some-2 : goal.index_mut-requires-in-Some-2
index_mut-requires-in-Some-2 c =
    let index = c.self.inside.index.items in
    let at : get_or index c.args.vid None ≡ Some c.in-Some.place = sym (read_at index c.from.result c.args.vid c.index_mut.result.now c.index_mut.ensures.value (omega arith) (omega arith)) ∙ sym c.take.ensures.value ∙ c.in-Some.is in
    omega (arith, c.self.invariant.4.size, leads-within (λ r. r.vid) c.self.inside.rows.items index c.args.vid c.in-Some.place c.self.invariant.2 at)

pub invariant_of-self : goal.invariant_of-self
invariant_of-self c =
    let index = c.self.inside.index.items in
    let rows = c.self.inside.rows.items in
    let j = c.in-Some.place in
    let at : get_or index c.args.vid None ≡ Some j = sym (read_at index c.from.result c.args.vid c.index_mut.result.now c.index_mut.ensures.value (omega arith) (omega arith)) ∙ sym c.take.ensures.value ∙ c.in-Some.is in
    let place : c.from-in-Some.result ≡ j = omega arith in
    let same : c.from.result ≡ c.args.vid = omega arith in
    let kept : Keeps (λ r. r.vid) (λ r. r.segment) (set rows c.from-in-Some.result c.take-row.new.self) (set index c.from.result c.take.new.self) = rw (c.take.ensures.after, c.take-row.ensures.after, same, place) (keeps-taken (λ r. r.vid) (λ r. r.segment) rows index c.args.vid j (c.self.invariant.0, c.self.invariant.1, c.self.invariant.2, c.self.invariant.3) at (omega arith)) in
    let lt : j < length rows = leads-within (λ r. r.vid) rows index c.args.vid j c.self.invariant.2 at in (
      kept.0,
      kept.1,
      kept.2,
      kept.3,
      rw (c.take-row.ensures.after) (
          rooms_emptied (λ row. row.segment.flood) c.self.inside.flood rows c.self.inside.rooms.items c.from-in-Some.result c.from-in-Some-2.result c.index_mut-in-Some.result.now c.take-row.result c.index_mut-in-Some-2.result.now c.emptied.new.room c.self.invariant.4
          (omega (arith, lt)) (omega arith) c.index_mut-in-Some.ensures.value c.take-row.ensures.value c.index_mut-in-Some-2.ensures.value c.emptied.ensures.room),
    )

pub returns-in-Some : goal.returns-in-Some
returns-in-Some c =
    let index = c.self.inside.index.items in
    let rows = c.self.inside.rows.items in
    let j = c.in-Some.place in
    let at : get_or index c.args.vid None ≡ Some j = sym (read_at index c.from.result c.args.vid c.index_mut.result.now c.index_mut.ensures.value (omega arith) (omega arith)) ∙ sym c.take.ensures.value ∙ c.in-Some.is in
    let row : c.index_mut-in-Some.result.now ≡ get_or rows j None = read_at rows c.from-in-Some.result j c.index_mut-in-Some.result.now c.index_mut-in-Some.ensures.value (omega arith) (leads-within (λ r. r.vid) rows index c.args.vid j c.self.invariant.2 at) in
    let place : c.from-in-Some.result ≡ j = omega arith in
    let same : c.from.result ≡ c.args.vid = omega arith in
    let lt : c.args.vid < length index = omega arith in record {
      taken =
          c.emptied.ensures.tunnels ∙ ap (option_map (λ r. r.segment.tunnels)) (c.take-row.ensures.value ∙ row) ∙ tunnels_of (get_or rows j None)
          ∙ ap (option_map (λ g. g.tunnels)) (found (λ r. r.segment) rows index c.args.vid j (get_or rows j None) refl at
          ∙ ap (λ (s : Seats). get s.segments c.args.vid) c.self.view_is);
      left =
          ap (λ (x : Option ℕ). shown c.self.inside.flood (set rows c.from-in-Some.result c.take-row.new.self) (set index c.from.result x)) c.take.ensures.after
          ∙ ap (λ (x : Option Row). shown c.self.inside.flood (set rows c.from-in-Some.result x) (set index c.from.result None)) c.take-row.ensures.after
          ∙ ap (λ (k : ℕ). shown c.self.inside.flood (set rows c.from-in-Some.result None) (set index k None)) same
          ∙ ap (λ (k : ℕ). shown c.self.inside.flood (set rows k None) (set index c.args.vid None)) place
          ∙ rw (seated-take (λ r. r.vid) (λ r. r.segment) rows index c.args.vid j c.self.invariant.2 at lt, seated-take (λ r. r.vid) (λ r. r.heads) rows index c.args.vid j c.self.invariant.2 at lt, length-set {A = Option Row} rows j None)
          (ap (λ (s : Seats). let n : Seats = record s { segments = remove s.segments c.args.vid; heads = remove s.heads c.args.vid } in n) c.self.view_is);
    }

pub returns-in-None : goal.returns-in-None
returns-in-None c =
    let index = c.self.inside.index.items in
    let rows = c.self.inside.rows.items in
    let at : get_or index c.args.vid None ≡ None = sym (read_at index c.from.result c.args.vid c.index_mut.result.now c.index_mut.ensures.value (omega arith) (omega arith)) ∙ sym c.take.ensures.value ∙ c.in-None.is in
    let same : c.from.result ≡ c.args.vid = omega arith in
    let lt : c.args.vid < length index = omega arith in record {
      taken = ap (option_map (λ g. g.tunnels)) (sym (absent (λ r. r.segment) rows index c.args.vid at) ∙ ap (λ (s : Seats). get s.segments c.args.vid) c.self.view_is);
      left =
          ap (λ (x : Option ℕ). shown c.self.inside.flood rows (set index c.from.result x)) c.take.ensures.after
          ∙ ap (λ (k : ℕ). shown c.self.inside.flood rows (set index k None)) same
          ∙ rw (seated-nothing_there (λ r. r.vid) (λ r. r.segment) rows index c.args.vid at lt, seated-nothing_there (λ r. r.vid) (λ r. r.heads) rows index c.args.vid at lt)
          (ap (λ (s : Seats). let n : Seats = record s { segments = remove s.segments c.args.vid; heads = remove s.heads c.args.vid } in n) c.self.view_is);
    }
