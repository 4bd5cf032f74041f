use Rattle.std.proofs.Common.{◌∙◌, ap, sym}
use Rattle.std.proofs.lemmas.List.{get_or_default}
use Rattle.part_merge.specs.Coming.{OpenPart}
use Rattle.part_merge.proofs.first.find_first.Goals as goal

pub loop-index-preserved : goal.loop-index-preserved
loop-index-preserved g c =
    c.earlier-first.ensures c.args.parts.now c.loop-index.invariant
    (λ s. ap (λ (x : OpenPart). x.coming) (get_or_default c.args.parts.now c.loop-index.index s c.index-parts-index.result c.loop-index-test.true ∙ sym c.index-parts-index.is) ∙ sym c.coming.ensures)
