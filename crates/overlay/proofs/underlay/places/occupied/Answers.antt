use Rattle.std.proofs.Common.{◌∙◌, sym, refl, arith}
use Rattle.overlay.proofs.SeatLemmas.{read_at, one_counted, none_counted}
use Rattle.overlay.proofs.underlay.places.occupied.Goals as goal
use Rattle.overlay.proofs.underlay.places.occupied.Goals.{then-is_some, else-is_some}

pub loop-row-preserved : goal.loop-row-preserved
loop-row-preserved c =
    let rows = c.args.rows.now in
    let i = c.loop-row.row-index in
    let there = read_at rows i i c.row-item.result c.row-item.is refl c.loop-row-test.true in
    elim c.if-is_some.branch [
      | then-is_some w ↦ record {
        so_far = omega (arith, w.count-is, c.loop-row.invariant.so_far, one_counted rows i c.row-item.result there (sym c.is_some.ensures ∙ w.if-is_some.true));
        few = omega (arith, w.count-is, c.loop-row.invariant.few);
      }
      | else-is_some w ↦ record {
        so_far = omega (arith, w.count-is, c.loop-row.invariant.so_far, none_counted rows i c.row-item.result there (sym c.is_some.ensures ∙ w.if-is_some.false));
        few = omega (arith, w.count-is, c.loop-row.invariant.few);
      }
    ]
