use Rattle.std.proofs.Common.{ap, sym, subst, get_or, length, List, arith}
use Rattle.std.proofs.lemmas.List.{length-set}
use Rattle.ranked_rows.specs.Frequent.{since}
use Rattle.ranked_rows.specs.Rows.{IsNumbering, row_of}
use Rattle.ranked_rows.specs.declared.key_count.KeyCount.{KeyCount}
use Rattle.ranked_rows.specs.declared.since.Since.{Since}
use Rattle.ranked_rows.proofs.Numbering.{length_by, numbers_set}
use Rattle.ranked_rows.proofs.Putting.{put_more}
use Rattle.ranked_rows.proofs.giving_way.put.Goals as goal

pub enter-requires-clause-inside : goal.enter-requires-clause-inside
enter-requires-clause-inside g c =
    omega (arith, (rw c.as_slice.ensures.value at (rw c.as_slice-2.ensures.value at c.in-Err.ensures.place)).inside, length_by c.args.rows.now.items c.args.order.now.items c.requires.numbers.inside)

pub enter-requires-clause-place : goal.enter-requires-clause-place
enter-requires-clause-place g c = rw c.as_slice.ensures.value at (rw c.as_slice-2.ensures.value at c.in-Err.ensures.place)

pub enter-requires-clause-behind : goal.enter-requires-clause-behind
enter-requires-clause-behind g c = rw c.as_slice.ensures.value at (rw c.as_slice-2.ensures.value at c.in-Err.ensures.behind)

pub returns-in-Ok-clause-puts : goal.returns-in-Ok-clause-puts
returns-in-Ok-clause-puts g c =
    let d : KeyCount g.row.K.Denot (Since g.row.C.Denot) = row_of c.args.more.key (since c.args.more.counts 0) in
    let inside = rw c.as_slice.ensures.value at c.in-Ok.ensures.inside in
    let row = rw c.as_slice.ensures.value at c.in-Ok.ensures.row in
    put_more g.K.Ranked.rank g.C.Counts.joined g.C.Frequency.times c.args.more c.args.rows.now.items c.more_of.new.rows.items c.args.order.now.items c.in-Ok.number c.args.least.now.floor d c.requires.rising c.requires.numbers c.requires.few inside (row d) (c.more_of.ensures.rows d)

pub returns-in-Ok-clause-numbers : goal.returns-in-Ok-clause-numbers
returns-in-Ok-clause-numbers g c =
    let d : KeyCount g.row.K.Denot (Since g.row.C.Denot) = row_of c.args.more.key (since c.args.more.counts 0) in
    subst (λ (l : List (KeyCount g.row.K.Denot (Since g.row.C.Denot))). IsNumbering l c.args.order.now.items) (sym (c.more_of.ensures.rows d)) (numbers_set c.args.rows.now.items c.args.order.now.items c.in-Ok.number _ c.requires.numbers)

pub returns-in-Ok-clause-few : goal.returns-in-Ok-clause-few
returns-in-Ok-clause-few g c =
    let d : KeyCount g.row.K.Denot (Since g.row.C.Denot) = row_of c.args.more.key (since c.args.more.counts 0) in
    let x = get_or c.args.rows.now.items c.in-Ok.number d in
    omega (arith, c.requires.few, ap length (c.more_of.ensures.rows d), length-set c.args.rows.now.items c.in-Ok.number (row_of x.key (since (g.C.Counts.joined x.counts.counts c.args.more.counts) x.counts.before)))
