use Rattle.std.proofs.Common.{◌∙◌, ap, ℕ, List, ◌++◌}
use Rattle.part_record.proofs.DigestText.{port_found}
use Rattle.part_record.proofs.digest_lines.port_digest.Goals as goal

pub returns : goal.returns
returns c = port_found c.args.text.now c.in_ok-numbered.numbered.now c.in_ok-told.told.now c.args.port c.digest_behind.result c.in_ok-numbered.ensures (c.in_ok-told.ensures ∙ ap (λ (l : List ℕ). l ++ c.in_ok-told.told.now) c.format.ensures.text) c.digest_behind.ensures
