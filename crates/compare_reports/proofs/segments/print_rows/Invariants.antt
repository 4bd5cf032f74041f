use Rattle.std.proofs.Common.{◌-◌}
use Rattle.std.specs.List.{FoldsTo}
use Rattle.compare_reports.specs.Prints.{Prints}
use Rattle.compare_reports.specs.Told.{first_texts}
use Rattle.compare_reports.proofs.segments.print_rows.Given as goal

-- the lines of the segments so far
abbrev pub invariant-loop-vid : goal.invariant-loop-vid
invariant-loop-vid g l = FoldsTo (Prints g.P.Printer.prints) l.fn.printer (first_texts (l.vid - 1) l.rows) l.printer
