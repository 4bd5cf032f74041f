use Rattle.compare_reports.proofs.Printing.{prints-delays}
use Rattle.compare_reports.proofs.tables.print_delays.Goals as goal

pub returns : goal.returns
returns g c =
    prints-delays g.P.Printer.prints c.args.at c.args.delays.now c.args.ahead c.args.printer.now c.print_told.new.printer c.summary-summary.result c.print_told.result
    c.summary-summary.ensures c.print_told.ensures
