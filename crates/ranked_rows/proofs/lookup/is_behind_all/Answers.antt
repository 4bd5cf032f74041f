use Rattle.std.proofs.Common.{◌∙◌, ap, sym, ℕ}
use Rattle.ranked_rows.specs.Rows.{row_at, stands_before}
use Rattle.ranked_rows.proofs.Numbering.{behind_all}
use Rattle.ranked_rows.proofs.lookup.is_behind_all.Goals as goal

pub returns-then-count-gt0 : goal.returns-then-count-gt0
returns-then-count-gt0 g c =
    λ is.
    let rank = g.K.Ranked.rank in
    let rows = c.args.rows.now in
    let order = c.args.order.now in
    let least : ℕ = rank c.args.key.now in
    behind_all rank rows order least c.requires.rising c.requires.numbers.inside c.if-count-gt0.true
    (ap (λ (n : ℕ). stands_before rank least (row_at rows n)) (sym c.from.ensures) ∙ sym c.is_before.ensures ∙ is)
