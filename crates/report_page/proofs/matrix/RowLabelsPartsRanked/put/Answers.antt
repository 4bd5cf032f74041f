use Rattle.report_page.specs.Matrix.{row_label}
use Rattle.report_page.proofs.matrix.RowLabelsPartsRanked.put.Goals as goal

pub returns : goal.returns
unfolding row_label
returns g c = λ plain ok. rw (← c.from.ensures, ← c.source_number.ensures) (c.write.ensures.writes plain ok)
