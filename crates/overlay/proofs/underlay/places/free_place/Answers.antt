use Rattle.std.proofs.Common.{◌≡◌, ◌∙◌, ap, sym, refl, arith}
use Rattle.std.proofs.lemmas.List.{take_all}
use Rattle.overlay.specs.Seats.{occupied}
use Rattle.overlay.proofs.SeatLemmas.{read_at, taken_row}
use Rattle.overlay.proofs.underlay.places.free_place.Goals as goal

pub loop-place-preserved : goal.loop-place-preserved
loop-place-preserved c = taken_row c.args.rows.now c.loop-place.place c.index-rows-place.result (read_at c.args.rows.now c.loop-place.place c.loop-place.place c.index-rows-place.result c.index-rows-place.is refl c.loop-place-test.true) (c.if-is_none-2.ensures) c.loop-place.invariant

pub unreachable-requires : goal.unreachable-requires
unreachable-requires c =
    let all : occupied c.args.rows.now ≡ c.loop-place.place = ap occupied (sym (take_all c.loop-place.place c.args.rows.now (omega arith))) ∙ c.loop-place.invariant in
    absurd (omega (arith, all, c.requires))
