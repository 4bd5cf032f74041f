use Rattle.std.proofs.Common.{take}
use Rattle.std.specs.List.{FoldsTo}
use Rattle.compare_reports.specs.Prints.{Prints}
use Rattle.compare_reports.specs.Told.{length_texts}
use Rattle.compare_reports.proofs.tables.print_lengths.Given as goal

-- the texts of the rows so far
abbrev pub invariant-loop-length : goal.invariant-loop-length
invariant-loop-length g l = FoldsTo (Prints g.P.Printer.prints) l.fn.printer (length_texts l.at 0 (take l.length l.rows)) l.printer
