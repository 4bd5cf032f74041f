use Rattle.compare_reports.proofs.Printing.{prints-none, prints-some}
use Rattle.compare_reports.proofs.printer.print_unless.Goals as goal

pub returns-then-is_none : goal.returns-then-is_none
returns-then-is_none g c = prints-none g.P.Printer.prints c.args.printer.now c.args.is_none _ c.if-is_none.true

pub returns : goal.returns
returns g c = prints-some g.P.Printer.prints c.args.printer.now c.print_told.new.printer c.args.is_none _ c.print_told.result c.if-is_none.false c.print_told.ensures
