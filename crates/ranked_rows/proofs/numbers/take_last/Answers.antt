use Rattle.std.proofs.Common.{◌∙◌, ap, sym, arith}
use Rattle.ranked_rows.specs.Rows.{total}
use Rattle.ranked_rows.proofs.Numbering.{front_long, taken_numbers, taken_rest, taken_shown, takes_last}
use Rattle.ranked_rows.proofs.numbers.take_last.Goals as goal

pub returns-clause-rows : goal.returns-clause-rows
returns-clause-rows g c =
    let takes = takes_last g.K.Ranked.rank 4095 c.in-Some.ensures.items (sym c.from-number.ensures) c.requires.numbers c.requires.full c.requires.inside in
    let put = rw (c.insert.ensures.succeeds (omega (arith, front_long g.K.Ranked.rank takes c.args.row, c.requires.space, c.pop.ensures.capacity))) at c.insert.ensures.items in
    taken_shown g.K.Ranked.rank takes c.args.row c.insert.new.self.items put c.requires.rising

pub returns-clause-rest : goal.returns-clause-rest
returns-clause-rest g c =
    let takes = takes_last g.K.Ranked.rank 4095 c.in-Some.ensures.items (sym c.from-number.ensures) c.requires.numbers c.requires.full c.requires.inside in
    c.total_of_one-rest.ensures ∙ ap (total g.C.Counts.joined g.C.Counts.none) (sym (taken_rest g.K.Ranked.rank takes c.args.row c.index.result.now c.index.ensures))

pub returns-clause-numbers : goal.returns-clause-numbers
returns-clause-numbers g c =
    let takes = takes_last g.K.Ranked.rank 4095 c.in-Some.ensures.items (sym c.from-number.ensures) c.requires.numbers c.requires.full c.requires.inside in
    let put = rw (c.insert.ensures.succeeds (omega (arith, front_long g.K.Ranked.rank takes c.args.row, c.requires.space, c.pop.ensures.capacity))) at c.insert.ensures.items in
    taken_numbers g.K.Ranked.rank takes c.args.row c.insert.new.self.items put
