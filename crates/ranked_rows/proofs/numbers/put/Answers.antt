use Rattle.std.proofs.Common.{◌∙◌, ap, sym, subst, drop, get_or, length, take, List, arith}
use Rattle.std.proofs.lemmas.List.{length-set}
use Rattle.ranked_rows.specs.Rows.{IsNumbering, row_of, rows_by, total}
use Rattle.ranked_rows.specs.declared.key_count.KeyCount.{KeyCount}
use Rattle.ranked_rows.proofs.Numbering.{length_by, more_rest, more_shown, numbers_set}
use Rattle.ranked_rows.proofs.Places.{entered}
use Rattle.ranked_rows.proofs.numbers.put.Goals as goal

pub enter-requires-clause-inside : goal.enter-requires-clause-inside
enter-requires-clause-inside g c =
    omega (arith, (rw c.as_slice.ensures.value at (rw c.as_slice-2.ensures.value at c.in-Err.ensures.place)).inside, length_by c.args.rows.now.items c.args.order.now.items c.requires.numbers.inside)

pub returns-in-Ok-clause-rows : goal.returns-in-Ok-clause-rows
returns-in-Ok-clause-rows g c =
    let d = row_of c.args.key c.args.counts in
    let inside = rw c.as_slice.ensures.value at c.in-Ok.ensures.inside in
    let row = rw c.as_slice.ensures.value at c.in-Ok.ensures.row in
    more_shown g.K.Ranked.rank g.C.Counts.joined c.args.key c.args.counts 4096 c.args.rows.now.items c.args.order.now.items c.in-Ok.number d c.more_of.new.rows.items c.requires.rising c.requires.numbers c.requires.few inside (row d) (c.more_of.ensures.rows d)

pub returns-in-Ok-clause-rest : goal.returns-in-Ok-clause-rest
returns-in-Ok-clause-rest g c =
    let d = row_of c.args.key c.args.counts in
    let inside = rw c.as_slice.ensures.value at c.in-Ok.ensures.inside in
    let row = rw c.as_slice.ensures.value at c.in-Ok.ensures.row in
    sym (ap (total g.C.Counts.joined g.C.Counts.none) (more_rest g.K.Ranked.rank g.C.Counts.joined c.args.key c.args.counts 4096 c.args.rows.now.items c.args.order.now.items c.in-Ok.number d c.requires.rising c.requires.numbers c.requires.few inside (row d)))

pub returns-in-Ok-clause-numbers : goal.returns-in-Ok-clause-numbers
returns-in-Ok-clause-numbers g c =
    let d = row_of c.args.key c.args.counts in
    subst (λ (l : List (KeyCount g.row.K.Denot g.row.C.Denot)). IsNumbering l c.args.order.now.items) (sym (c.more_of.ensures.rows d)) (numbers_set c.args.rows.now.items c.args.order.now.items c.in-Ok.number _ c.requires.numbers)

pub returns-in-Ok-clause-few : goal.returns-in-Ok-clause-few
returns-in-Ok-clause-few g c =
    let d = row_of c.args.key c.args.counts in
    omega (arith, c.requires.few, ap length (c.more_of.ensures.rows d), length-set c.args.rows.now.items c.in-Ok.number (row_of (get_or c.args.rows.now.items c.in-Ok.number d).key (g.C.Counts.joined (get_or c.args.rows.now.items c.in-Ok.number d).counts c.args.counts)))

pub returns-in-Err-clause-rows : goal.returns-in-Err-clause-rows
returns-in-Err-clause-rows g c =
    let place = rw c.as_slice.ensures.value at (rw c.as_slice-2.ensures.value at c.in-Err.ensures.place) in
    let behind = rw c.as_slice.ensures.value at (rw c.as_slice-2.ensures.value at c.in-Err.ensures.behind) in
    c.enter.ensures.rows ∙ ap (take 4096) (sym (entered g.K.Ranked.rank g.C.Counts.joined c.args.key c.args.counts (rows_by c.args.rows.now.items c.args.order.now.items) c.in-Err.at place.inside place.before behind))

pub returns-in-Err-clause-rest : goal.returns-in-Err-clause-rest
returns-in-Err-clause-rest g c =
    let place = rw c.as_slice.ensures.value at (rw c.as_slice-2.ensures.value at c.in-Err.ensures.place) in
    let behind = rw c.as_slice.ensures.value at (rw c.as_slice-2.ensures.value at c.in-Err.ensures.behind) in
    c.enter.ensures.rest ∙ ap (λ (l : List (KeyCount g.row.K.Denot g.row.C.Denot)). total g.C.Counts.joined g.C.Counts.none (drop 4096 l)) (sym (entered g.K.Ranked.rank g.C.Counts.joined c.args.key c.args.counts (rows_by c.args.rows.now.items c.args.order.now.items) c.in-Err.at place.inside place.before behind))
