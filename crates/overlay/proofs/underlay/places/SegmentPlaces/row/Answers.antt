use Rattle.std.proofs.Common.{◌≡◌, ◌∙◌, ap, sym, arith, Some, None, get_or}
use Rattle.std.specs.Option.{option_map}
use Rattle.std.specs.FinMap.{get}
use Rattle.overlay.specs.Seats.{Seats}
use Rattle.overlay.proofs.SeatLemmas.{leads-within, read_at, found, absent}
use Rattle.overlay.proofs.underlay.places.SegmentPlaces.row.Goals as goal

pub index-requires-in-Some : goal.index-requires-in-Some
index-requires-in-Some c =
    let index = c.self.inside.index.items in
    let at : get_or index c.args.vid None ≡ Some c.in-Some.place = sym (read_at index c.from.result c.args.vid c.index.result.now c.index.ensures (omega arith) (omega arith)) ∙ c.in-Some.is in
    omega (arith, leads-within (λ r. r.vid) c.self.inside.rows.items index c.args.vid c.in-Some.place c.self.invariant.2 at)

pub returns-in-Some : goal.returns-in-Some
returns-in-Some c =
    let index = c.self.inside.index.items in
    let rows = c.self.inside.rows.items in
    let place = c.in-Some.place in
    let at : get_or index c.args.vid None ≡ Some place = sym (read_at index c.from.result c.args.vid c.index.result.now c.index.ensures (omega arith) (omega arith)) ∙ c.in-Some.is in
    let row = read_at rows c.from-in-Some.result place c.index-in-Some.result.now c.index-in-Some.ensures (omega arith) (leads-within (λ r. r.vid) rows index c.args.vid place c.self.invariant.2 at) in
    record {
      segment = ap (option_map (λ r. r.segment)) c.as_ref.ensures.value ∙ found (λ r. r.segment) rows index c.args.vid place c.index-in-Some.result.now row at ∙ ap (λ (s : Seats). get s.segments c.args.vid) c.self.view_is;
      heads = ap (option_map (λ r. r.heads)) c.as_ref.ensures.value ∙ found (λ r. r.heads) rows index c.args.vid place c.index-in-Some.result.now row at ∙ ap (λ (s : Seats). get s.heads c.args.vid) c.self.view_is;
    }

pub returns-in-None : goal.returns-in-None
returns-in-None c =
    let index = c.self.inside.index.items in
    let rows = c.self.inside.rows.items in
    let at : get_or index c.args.vid None ≡ None = sym (read_at index c.from.result c.args.vid c.index.result.now c.index.ensures (omega arith) (omega arith)) ∙ c.in-None.is in
    record {
      segment = sym (absent (λ r. r.segment) rows index c.args.vid at) ∙ ap (λ (s : Seats). get s.segments c.args.vid) c.self.view_is;
      heads = sym (absent (λ r. r.heads) rows index c.args.vid at) ∙ ap (λ (s : Seats). get s.heads c.args.vid) c.self.view_is;
    }
