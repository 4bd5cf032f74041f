use Rattle.std.proofs.Common.{◌∙◌, ap, sym, subst, drop, List, arith}
use Rattle.ranked_rows.specs.Rows.{AreRising, rows_by, total, with_counts}
use Rattle.ranked_rows.specs.declared.key_count.KeyCount.{KeyCount}
use Rattle.ranked_rows.proofs.Places.{rising_first, rising_more}
use Rattle.ranked_rows.proofs.rows.RankedRows.add.Goals as goal

pub invariant_of-self : goal.invariant_of-self
invariant_of-self g c =
    let rank = g.K.Ranked.rank in
    let joined = g.C.Counts.joined in
    let none = g.C.Counts.none in
    let rows = rows_by c.self.inside.rows.items c.self.inside.order.items in
    let more = with_counts rank joined c.args.key c.args.counts rows in
    let old = c.self.inside.others in
    let rest = total joined none (drop 4096 more) in
    let is = c.join.ensures ∙ ap (joined old) c.put-rest.ensures.rest in (
      subst (λ (l : List (KeyCount g.row.K.Denot g.row.C.Denot)). AreRising rank l) (sym c.put-rest.ensures.rows) (rising_first rank 4096 0 more (rising_more rank joined 0 c.args.key c.args.counts rows (omega arith) c.self.invariant.0)),
      c.put-rest.ensures.numbers,
      c.put-rest.ensures.few,
      c.put-rest.ensures.room,
      c.put-rest.ensures.space,
      ap (λ others. joined others none) is ∙ g.met.C.Counts.whole old rest ∙ sym is,
    )
