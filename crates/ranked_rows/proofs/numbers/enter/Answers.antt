use Rattle.std.proofs.Common.{◌≡◌, ◌≤◌, ◌∙◌, ap, sym, length, arith}
use Rattle.std.proofs.lemmas.List.{drop_all, take_all}
use Rattle.std.proofs.lemmas.List.Edits.{length-insert}
use Rattle.std.specs.List.{insert}
use Rattle.ranked_rows.specs.Rows.{rows_by, total}
use Rattle.ranked_rows.proofs.Lists.{drop_behind, take_behind}
use Rattle.ranked_rows.proofs.Numbering.{length_by}
use Rattle.ranked_rows.proofs.numbers.enter.Goals as goal

pub returns-then-at-eq-MOST-clause-rows : goal.returns-then-at-eq-MOST-clause-rows
returns-then-at-eq-MOST-clause-rows g c =
    let rows = rows_by c.args.rows.now.items c.args.order.now.items in
    let long : length rows ≡ 4096 = omega (arith, c.if-at-eq-MOST.true, c.requires.inside, c.requires.few, c.requires.numbers.many, length_by c.args.rows.now.items c.args.order.now.items c.requires.numbers.inside) in
    rw c.if-at-eq-MOST.true (sym (take_behind 4096 rows c.args.row long))

pub returns-then-at-eq-MOST-clause-rest : goal.returns-then-at-eq-MOST-clause-rest
returns-then-at-eq-MOST-clause-rest g c =
    let rows = rows_by c.args.rows.now.items c.args.order.now.items in
    let long : length rows ≡ 4096 = omega (arith, c.if-at-eq-MOST.true, c.requires.inside, c.requires.few, c.requires.numbers.many, length_by c.args.rows.now.items c.args.order.now.items c.requires.numbers.inside) in
    rw c.if-at-eq-MOST.true (c.total_of_one.ensures ∙ ap (total g.C.Counts.joined g.C.Counts.none) (sym (drop_behind 4096 rows c.args.row long)))

pub returns-clause-rows : goal.returns-clause-rows
returns-clause-rows g c =
    let rows = rows_by c.args.rows.now.items c.args.order.now.items in
    let many = length_by c.args.rows.now.items c.args.order.now.items c.requires.numbers.inside in
    let few : length (insert rows c.args.at c.args.row) ≤ 4096 = omega (arith, length-insert rows c.args.at c.args.row (omega (arith, many, c.requires.inside)), many, c.requires.numbers.many, c.requires.few, c.if-len-eq-MOST.false, c.len.ensures) in
    c.append.ensures.rows ∙ sym (take_all 4096 (insert rows c.args.at c.args.row) few)

pub returns-clause-rest : goal.returns-clause-rest
returns-clause-rest g c =
    let rows = rows_by c.args.rows.now.items c.args.order.now.items in
    let many = length_by c.args.rows.now.items c.args.order.now.items c.requires.numbers.inside in
    let few : length (insert rows c.args.at c.args.row) ≤ 4096 = omega (arith, length-insert rows c.args.at c.args.row (omega (arith, many, c.requires.inside)), many, c.requires.numbers.many, c.requires.few, c.if-len-eq-MOST.false, c.len.ensures) in
    c.none.ensures ∙ sym (ap (total g.C.Counts.joined g.C.Counts.none) (drop_all 4096 (insert rows c.args.at c.args.row) few))
