use Rattle.std.proofs.Common.{◌≡◌, ◌∙◌, ◌<◌, length, slice_index_or, ap, arith, inl, inr, sym}
use Rattle.std.proofs.lemmas.Bool.{cases_lt}
use Rattle.std.proofs.lemmas.List.{get_or_default}
use Rattle.part_merge.specs.Coming.{OpenPart}
use Rattle.part_merge.proofs.merge.see_counts.Goals as goal

pub loop-index-preserved : goal.loop-index-preserved
loop-index-preserved g c = λ s k h.
    let parts = c.args.parts.now in
    let index = c.loop-index.index in
    let part = c.index-parts-index.result in
    let there : index < length parts = omega (arith, c.loop-index-test.true, c.loop-index.auto.index-end) in
    let many : length part.ports ≡ c.args.count = omega (arith, c.count.ensures, c.if-count.false) in
    let here : length (slice_index_or parts index s).ports ≡ c.args.count =
    ap (λ (x : OpenPart). length x.ports) (get_or_default parts index s part there ∙ sym c.index-parts-index.is) ∙ many in
    elim (cases_lt k index) [
      | inl below ↦ c.loop-index.invariant s k below
      | inr ge ↦ let same : k ≡ index = omega (arith, h, ge) in rw same here
    ]

pub returns-clause-all : goal.returns-clause-all
returns-clause-all g c = λ s k h. c.loop-index.invariant s k (omega (arith, h, c.loop-index-test.false, c.loop-index.auto.index-end))
