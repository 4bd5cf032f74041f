use Rattle.std.proofs.Common.{◌∙◌, ap, ℕ, List, ◌++◌}
use Rattle.part_record.proofs.OutputText.{port_word_found}
use Rattle.part_record.proofs.outputs.behind_port.Goals as goal

pub returns : goal.returns
returns c = port_word_found c.args.text.now c.in_ok-numbered.numbered.now c.in_ok-told.told.now c.args.port c.behind-3.result c.requires c.in_ok-numbered.ensures (c.in_ok-told.ensures ∙ ap (λ (l : List ℕ). l ++ c.in_ok-told.told.now) c.format.ensures.text) c.behind-3.ensures
