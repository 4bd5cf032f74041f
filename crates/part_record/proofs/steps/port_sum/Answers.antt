use Rattle.std.proofs.Common.{◌∙◌, ap, ℕ, List, ◌++◌}
use Rattle.part_record.proofs.Captures.{port_found}
use Rattle.part_record.proofs.steps.port_sum.Goals as goal

pub returns : goal.returns
returns c = port_found c.args.text.now c.in_ok-numbered.numbered.now c.in_ok-told.told.now c.args.port c.sum_behind.result c.in_ok-numbered.ensures (c.in_ok-told.ensures ∙ ap (λ (l : List ℕ). l ++ c.in_ok-told.told.now) c.format.ensures.text) c.sum_behind.ensures
