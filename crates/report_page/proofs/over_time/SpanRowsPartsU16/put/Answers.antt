use Rattle.std.proofs.Output.{has_written_of_eq}
use Rattle.report_page.specs.OverTime.{span_row}
use Rattle.report_page.proofs.over_time.SpanRowsPartsU16.put.Goals as goal

pub returns : goal.returns
unfolding span_row
returns g c = λ plain ok.
    let wrote = c.write.ensures.writes plain ok in
    has_written_of_eq _ _ _ _ _ (cc) wrote
