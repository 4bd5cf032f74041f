use Rattle.std.proofs.Output.{has_written_of_eq}
use Rattle.report_page.specs.Drops.{drops_text}
use Rattle.report_page.proofs.drops.DropsDisplay.fmt.Goals as goal

pub returns-clause-writes : goal.returns-clause-writes
unfolding drops_text
returns-clause-writes g c = λ plain ok.
    let wrote = c.write.ensures.writes plain ok in
    has_written_of_eq _ _ _ _ _ (cc) wrote
