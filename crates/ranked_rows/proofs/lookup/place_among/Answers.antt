use Rattle.std.proofs.Common.{ℕ, rules}
use Rattle.std.proofs.lemmas.List.Sorted.{IsPartitionPoint-from_clause}
use Rattle.ranked_rows.specs.Rows.{row_at, stands_before}
use Rattle.ranked_rows.proofs.Numbering.{partitioned, place_from}
use Rattle.ranked_rows.proofs.lookup.place_among.Goals as goal

pub returns-clause-place : goal.returns-clause-place
returns-clause-place g c =
    let rank = g.K.Ranked.rank in
    let rows = c.args.rows.now in
    let order = c.args.order.now in
    let least : ℕ = rank c.args.key.now in
    let are = c.requires.numbers.inside in
    let at = c.partition_point.result in
    let point = IsPartitionPoint-from_clause (λ (n : ℕ). stands_before rank least (row_at rows n)) order at c.partition_point.ensures.partitioned (partitioned rank rows order least c.requires.rising are) (λ a r f k. search rules) in
    place_from rank rows order least at are c.partition_point.ensures.bound point
