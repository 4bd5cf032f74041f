use Rattle.std.proofs.Common.{◌≡◌, ◌∙◌, ◌++◌, ◌∷◌, [], Option, None, arith, ap, sym, length, List, ℕ, replicate, refl}
use Rattle.std.proofs.lemmas.List.{replicate-append-replicate, length-replicate}
use Rattle.overlay.specs.Seats.{Seats, seated}
use Rattle.overlay.specs.declared.underlay.places.Row.{Row}
use Rattle.overlay.proofs.RoomsLemmas.{rooms_from}
use Rattle.overlay.proofs.SeatLemmas.{seated-nothing, keeps-nothing}
use Rattle.overlay.proofs.underlay.places.SegmentPlaces.open.Goals as goal

pub loop-number-preserved : goal.loop-number-preserved
loop-number-preserved c = c.in_ok-push.ensures.items ∙ ap (λ (l : List (Option ℕ)). l ++ None ∷ []) c.loop-number.invariant ∙ replicate-append-replicate c.loop-number._number 1 None

pub loop-place-init : goal.loop-place-init
loop-place-init c = ((let n : c.loop-number._number ≡ 4096 = omega arith in c.loop-number.invariant ∙ ap (λ (n : ℕ). replicate n None) n), c.in_ok-rows.ensures.items)

pub loop-place-preserved : goal.loop-place-preserved
loop-place-preserved c = (c.loop-place.invariant.0, c.in_ok-push-2.ensures.items ∙ ap (λ l. l ++ None ∷ []) c.loop-place.invariant.1 ∙ replicate-append-replicate c.loop-place._place 1 None)

pub invariant_of-result : goal.invariant_of-result
invariant_of-result c =
    let rows = c.loop-place.rows.items in
    let size : length rows ≡ c.args.most = omega (arith, ap length c.loop-place.invariant.1, length-replicate {A = Option Row} c.loop-place._place None) in
    let kept = keeps-nothing (λ row. row.vid) (λ row. row.segment) c.loop-place._place c.loop-place.rows.items c.loop-number.index.items (omega arith) c.loop-place.invariant.1 c.loop-place.invariant.0 in (
      kept.0,
      kept.1,
      kept.2,
      kept.3,
      rooms_from (λ row. row.segment.flood) c.args.flood rows c.in_ok-rooms.field-0.items (c.in_ok-rooms.ensures.size ∙ sym size) (λ k lt. c.in_ok-rooms.ensures.each k (omega (arith, lt, size))),
    )

pub returns : goal.returns
returns c =
    let rows = c.loop-place.rows.items in
    let size : length rows ≡ c.args.most = omega (arith, ap length c.loop-place.invariant.1, length-replicate {A = Option Row} c.loop-place._place None) in
    ap (λ (i : List (Option ℕ)). let s : Seats = record { segments = seated (λ row. row.segment) rows i; heads = seated (λ row. row.heads) rows i; most = length rows; flood = c.args.flood } in s) c.loop-place.invariant.0
    ∙ rw (seated-nothing (λ row. row.segment) rows 4096, seated-nothing (λ row. row.heads) rows 4096, size) refl
