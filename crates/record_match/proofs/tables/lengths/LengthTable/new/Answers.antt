use Rattle.std.proofs.Common.{ℕ, replicate, ap, ◌∙◌}
use Rattle.record_match.specs.Lengths.{no_row}
use Rattle.record_match.proofs.tables.lengths.LengthTable.new.Goals as goal

pub returns : goal.returns
returns c = c.in_ok-no_rows.ensures ∙ ap (λ (n : ℕ). replicate n no_row) c.row_count.ensures
