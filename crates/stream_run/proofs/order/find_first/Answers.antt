use Rattle.std.proofs.Common.{◌∙◌, ap, sym}
use Rattle.std.proofs.lemmas.List.{get_or_default}
use Rattle.stream_run.specs.declared.turn.Turn.{Turn}
use Rattle.stream_run.proofs.order.find_first.Goals as goal

pub loop-index-preserved : goal.loop-index-preserved
loop-index-preserved c = c.earlier-first.ensures c.args.turns.now c.loop-index.invariant (λ t. ap (λ (x : Turn). x.next) (get_or_default c.args.turns.now c.loop-index.index t c.index-turns-index.result c.loop-index-test.true ∙ sym c.index-turns-index.is))
