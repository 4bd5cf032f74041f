use Rattle.std.proofs.Common.{ℕ, replicate, ap, ◌∙◌}
use Rattle.capture_compare.specs.Counts.{no_counts}
use Rattle.capture_compare.proofs.segments.rows.SegmentRows.new.Goals as goal

pub returns : goal.returns
returns c = c.in_ok-no_rows.ensures ∙ ap (λ (n : ℕ). replicate n no_counts) c.row_count.ensures
