use Rattle.std.proofs.Common.{sym, subst}
use Rattle.ranked_rows.specs.Frequent.{Frequent, Keeps}
use Rattle.ranked_rows.specs.Rows.{row_of, rows_by}
use Rattle.ranked_rows.proofs.Keeping.{keeps_put, puts_rising}
use Rattle.ranked_rows.proofs.frequent.FrequentRows.add.Goals as goal

pub returns : goal.returns
returns g c =
    λ came keeps.
    let old : Frequent g.row.K.Denot g.row.C.Denot = record { rows = rows_by c.self.inside.rows.items c.self.inside.order.items; others = c.self.inside.others; floor = c.self.inside.least.floor } in
    let new : Frequent g.row.K.Denot g.row.C.Denot = record { rows = rows_by c.put-gone.new.rows.items c.put-gone.new.order.items; others = c.join.new.others; floor = c.put-gone.new.least.floor } in
    keeps_put g.K.Ranked.rank g.C.Counts.joined g.C.Counts.none g.C.Frequency.times
    (record { grouped = g.met.C.Counts.grouped; turned = g.met.C.Counts.turned; whole = g.met.C.Counts.whole; nothing = g.met.C.Counts.nothing })
    (record { summed = g.met.C.Frequency.summed; never = g.met.C.Frequency.never })
    came (row_of c.args.key c.args.counts) old new c.put-gone.result c.put-gone.ensures.puts c.join.ensures
    (subst (λ (t : Frequent g.row.K.Denot g.row.C.Denot). Keeps g.K.Ranked.rank g.C.Counts.joined g.C.Counts.none g.C.Frequency.times came t) (sym c.self.view_is) keeps)

pub invariant_of-self : goal.invariant_of-self
invariant_of-self g c = (
  puts_rising g.K.Ranked.rank g.C.Counts.joined g.C.Counts.none g.C.Frequency.times
      (record { grouped = g.met.C.Counts.grouped; turned = g.met.C.Counts.turned; whole = g.met.C.Counts.whole; nothing = g.met.C.Counts.nothing })
      (record { summed = g.met.C.Frequency.summed; never = g.met.C.Frequency.never })
      (row_of c.args.key c.args.counts) _ _ _ _ c.put-gone.result c.self.invariant.0 c.put-gone.ensures.puts,
  c.put-gone.ensures.numbers,
  c.put-gone.ensures.few,
  c.put-gone.ensures.room,
  c.put-gone.ensures.space,
)
