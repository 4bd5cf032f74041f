use Rattle.std.proofs.Common.{◌≡◌, ◌∙◌, ◌<◌, ap, length, arith}
use Rattle.std.specs.List.{insert, remove}
use Rattle.ranked_rows.specs.Frequent.{place_then}
use Rattle.ranked_rows.specs.Rows.{rows_by}
use Rattle.ranked_rows.specs.declared.key_count.KeyCount.{KeyCount}
use Rattle.ranked_rows.specs.declared.since.Since.{Since}
use Rattle.ranked_rows.proofs.Numbering.{length_by}
use Rattle.ranked_rows.proofs.Putting.{put_new, put_replaced}
use Rattle.ranked_rows.proofs.giving_way.enter.Goals as goal

pub returns-then-len-lt-MOST-clause-puts : goal.returns-then-len-lt-MOST-clause-puts
returns-then-len-lt-MOST-clause-puts g c =
    let rows = rows_by c.args.rows.now.items c.args.order.now.items in
    let few : length rows < 4096 = omega (arith, c.if-len-lt-MOST.true, c.len.ensures, c.requires.numbers.many, length_by c.args.rows.now.items c.args.order.now.items c.requires.numbers.inside) in
    put_new g.K.Ranked.rank g.C.Counts.joined g.C.Frequency.times c.args.more rows (rows_by c.append.new.rows.items c.append.new.order.items) c.args.at c.args.least.now.floor c.requires.place c.requires.behind few
    (c.append.ensures.rows ∙ ap (λ (r : KeyCount g.row.K.Denot (Since g.row.C.Denot)). insert rows c.args.at r) c.first_since.ensures)

pub returns-clause-puts : goal.returns-clause-puts
returns-clause-puts g c =
    let rows = rows_by c.args.rows.now.items c.args.order.now.items in
    let many = length_by c.args.rows.now.items c.args.order.now.items c.requires.numbers.inside in
    let full : length rows ≡ 4096 = omega (arith, c.if-len-lt-MOST.false, c.len.ensures, c.requires.few, c.requires.numbers.many, many) in
    let place = c.place-place.result in
    let there : place < length rows = omega (arith, rw c.as_slice-2.ensures.value at c.place-place.ensures.inside, many) in
    put_replaced g.K.Ranked.rank g.C.Counts.joined g.C.Frequency.times c.args.more rows (rows_by c.replace.new.rows.items c.replace.new.order.items) c.args.at c.args.least.now.floor c.requires.place c.requires.behind place c.place-place.new.self.floor c.replace.result
    c.requires.rising full there
    (rw c.as_slice.ensures.value at (rw c.as_slice-2.ensures.value at c.place-place.ensures.raised))
    (rw c.as_slice.ensures.value at (rw c.as_slice-2.ensures.value at c.place-place.ensures.low))
    c.replace.ensures.gone
    (c.replace.ensures.rows ∙ ap (λ (r : KeyCount g.row.K.Denot (Since g.row.C.Denot)). insert (remove rows place) (place_then place c.args.at) r) c.first_since-row.ensures)
