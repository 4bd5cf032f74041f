use Rattle.std.proofs.Common.{◌∙◌, ap, map, sym, subst, take, ◌++◌, ◌∷◌, [], List, Option, ℕ}
use Rattle.std.specs.List.{FoldsTo}
use Rattle.capture_compare.specs.declared.lonely.pairs.DifferenceRow.{DifferenceRow}
use Rattle.compare_reports.specs.Prints.{Prints}
use Rattle.compare_reports.specs.Told.{difference_text}
use Rattle.compare_reports.proofs.Printing.{prints-one, rows-first}
use Rattle.compare_reports.proofs.differing.print_rows.Goals as goal

pub loop-i-preserved : goal.loop-i-preserved
loop-i-preserved g c =
    let prints = g.P.Printer.prints in
    let row = c.index-rows-i.result in
    let so_far = map (difference_text c.args.at) (take c.loop-i.i c.args.rows.now) in
    subst (λ (texts : List (Option (List ℕ))). FoldsTo (Prints prints) c.args.printer.now texts c.print_told.new.printer)
    (ap (λ (x : DifferenceRow). so_far ++ difference_text c.args.at x ∷ []) c.index-rows-i.is ∙ sym (rows-first c.args.at c.loop-i.i c.args.rows.now row c.loop-i-test.true))
    (prints-one (Prints prints) c.args.printer.now so_far c.loop-i.printer (difference_text c.args.at row) c.print_told.new.printer c.loop-i.invariant c.in_default.ensures)
