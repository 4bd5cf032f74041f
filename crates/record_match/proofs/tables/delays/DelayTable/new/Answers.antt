use Rattle.std.proofs.Common.{ℕ, List, replicate, ap, ◌∙◌}
use Rattle.record_match.specs.Delays.{Delays}
use Rattle.record_match.proofs.tables.delays.DelayTable.new.Goals as goal

abbrev table : ℕ → List ℕ → Delays
table step rows = record { step = step; rows = rows; least = 18446744073709551615; greatest = 0; count = 0 }

pub returns : goal.returns
returns c = λ i. table (c.step_of.ensures.value i) ((c.in_ok-no_rows.ensures ∙ ap (λ (n : ℕ). replicate n 0) c.row_count.ensures) i)
