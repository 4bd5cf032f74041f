use Rattle.std.proofs.Common.{arith, rules}
use Rattle.std.proofs.lemmas.Grind.{common_steps}
use Rattle.std.specs.Net.Text.{hex_groups_text}
use Rattle.packet_layers.proofs.words.lines.Lines.put_segments.Goals as goal

pub returns-then-run-gt1-clause-text : goal.returns-then-run-gt1-clause-text
unfolding hex_groups_text
returns-then-run-gt1-clause-text c = first_of (search rules, grind (arith, common_steps))

pub returns-else-run-gt1-clause-text : goal.returns-else-run-gt1-clause-text
unfolding hex_groups_text
returns-else-run-gt1-clause-text c = first_of (search rules, grind (arith, common_steps))
