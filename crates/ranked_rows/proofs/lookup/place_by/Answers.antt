use Rattle.std.proofs.Common.{◌∙◌, ◌<◌, ap, sym, ℕ, length, get_or, arith}
use Rattle.std.proofs.lemmas.Bool.{ltb-false, ltb-true}
use Rattle.ranked_rows.specs.declared.key_count.KeyCount.{KeyCount}
use Rattle.ranked_rows.proofs.Numbering.{get_by, length_by}
use Rattle.ranked_rows.proofs.lookup.place_by.Goals as goal

pub returns-then-is_behind_all-clause-behind : goal.returns-then-is_behind_all-clause-behind
returns-then-is_behind_all-clause-behind g c =
    λ d inside. absurd (omega (arith, inside, length_by c.args.rows.now c.args.order.now c.requires.numbers.inside))

pub returns-then-at-order-clause-behind : goal.returns-then-at-order-clause-behind
returns-then-at-order-clause-behind g c =
    λ d inside. absurd (omega (arith, inside, c.if-at-order.true, length_by c.args.rows.now c.args.order.now c.requires.numbers.inside))

pub returns-then-is_behind-clause-behind : goal.returns-then-is_behind-clause-behind
returns-then-is_behind-clause-behind g c =
    λ d inside.
    let rank = g.K.Ranked.rank in
    let rows = c.args.rows.now in
    let order = c.args.order.now in
    let at = c.place_among-at.result in
    let are = c.requires.numbers.inside in
    let within : at < length order = omega (arith, inside, length_by rows order are) in
    omega (arith, ap (λ (r : KeyCount g.row.K.Denot g.row.C.Denot). rank r.key) (get_by rows order at 0 d are within), ltb-true (rank c.args.key.now) (rank (get_or rows (get_or order at 0) d).key) (sym (c.is_behind.ensures d) ∙ c.if-is_behind.true))

pub returns-clause-row : goal.returns-clause-row
returns-clause-row g c =
    λ d.
    let rank = g.K.Ranked.rank in
    let rows = c.args.rows.now in
    let order = c.args.order.now in
    let at = c.place_among-at.result in
    let are = c.requires.numbers.inside in
    let many = length_by rows order are in
    let within : at < length order = omega (arith, c.if-at-order.false, c.place_among-at.ensures.inside) in
    omega (arith, ap (λ (n : ℕ). rank (get_or rows n d).key) c.from.ensures, ap (λ (r : KeyCount g.row.K.Denot g.row.C.Denot). rank r.key) (get_by rows order at 0 d are within), c.place_among-at.ensures.place.behind at d (omega arith) (omega (arith, within, many)), ltb-false (rank c.args.key.now) (rank (get_or rows (get_or order at 0) d).key) (sym (c.is_behind.ensures d) ∙ c.if-is_behind.false))
