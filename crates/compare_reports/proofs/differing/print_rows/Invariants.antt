use Rattle.std.proofs.Common.{map, take}
use Rattle.std.specs.List.{FoldsTo}
use Rattle.compare_reports.specs.Prints.{Prints}
use Rattle.compare_reports.specs.Told.{difference_text}
use Rattle.compare_reports.proofs.differing.print_rows.Given as goal

-- the lines of the rows so far
abbrev pub invariant-loop-i : goal.invariant-loop-i
invariant-loop-i g l = FoldsTo (Prints g.P.Printer.prints) l.fn.printer (map (difference_text l.at) (take l.i l.rows)) l.printer
