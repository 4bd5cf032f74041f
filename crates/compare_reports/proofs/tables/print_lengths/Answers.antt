use Rattle.std.proofs.Common.{sym, subst, List, Option, ℕ}
use Rattle.std.specs.List.{FoldsTo}
use Rattle.compare_reports.specs.Prints.{Prints}
use Rattle.compare_reports.proofs.Printing.{lengths-first, prints-one}
use Rattle.compare_reports.proofs.tables.print_lengths.Goals as goal

pub loop-length-preserved : goal.loop-length-preserved
loop-length-preserved g c =
    subst (λ (texts : List (Option (List ℕ))). FoldsTo (Prints g.P.Printer.prints) c.args.printer.now texts c.print_length.new.printer)
    (sym (lengths-first c.args.at c.loop-length.length c.args.rows.now _ c.loop-length-test.true))
    (prints-one (Prints g.P.Printer.prints) c.args.printer.now _ c.loop-length.printer _ c.print_length.new.printer c.loop-length.invariant c.in_default.ensures)
