use Rattle.std.proofs.Common.{◌<◌, ◌∙◌, add-one, arith, length}
use Rattle.std.proofs.lemmas.List.{get_or_default}
use Rattle.ranked_rows.specs.Frequent.{most_of}
use Rattle.ranked_rows.proofs.Counting.{found_at, none_up_to, up_to_next}
use Rattle.ranked_rows.proofs.least.first_up_to.Goals as goal

pub returns-then-most_of-limit-clause-found : goal.returns-then-most_of-limit-clause-found
returns-then-most_of-limit-clause-found g c =
    let order = c.args.order.now in
    let i = c.loop-place.place in
    let n = c.from.result in
    let inside : n < length c.args.rows.now = omega (arith, c.requires.inside i 0 c.loop-place-test.true, c.from.ensures) in (
      c.loop-place-test.true,
      λ d. found_at g.C.Frequency.times c.args.limit c.args.rows.now order i n c.index-rows-from.result d c.requires.inside c.loop-place-test.true (c.from.ensures ∙ get_or_default order i 0 n c.loop-place-test.true) inside c.index-rows-from.is (omega (arith, c.if-most_of-limit.true, c.most_of.ensures)),
    )

pub loop-place-preserved : goal.loop-place-preserved
loop-place-preserved g c =
    λ zero.
    let order = c.args.order.now in
    let i = c.loop-place.place in
    let n = c.from.result in
    let row = c.index-rows-from.result in
    let inside : n < length c.args.rows.now = omega (arith, c.requires.inside i 0 c.loop-place-test.true, c.from.ensures) in
    let next = up_to_next g.C.Frequency.times c.args.limit c.args.rows.now order i n row c.loop-place-test.true (c.from.ensures ∙ get_or_default order i 0 n c.loop-place-test.true) inside c.index-rows-from.is in
    let more : c.args.limit < most_of g.C.Frequency.times row = omega (arith, c.if-most_of-limit.false, c.most_of.ensures) in
    rw (add-one i) (omega (arith, c.loop-place.invariant zero, next, none_up_to g.C.Frequency.times c.args.limit row more))
