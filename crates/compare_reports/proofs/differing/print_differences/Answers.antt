use Rattle.std.proofs.Common.{◌==◌, map, sym, subst, List, Option, ℕ}
use Rattle.std.specs.Prelude.{OnOk}
use Rattle.std.specs.List.{FoldsTo}
use Rattle.std.proofs.lemmas.Result.{on_ok_weaker}
use Rattle.capture_compare.specs.Differing.{Differing}
use Rattle.capture_compare.specs.Lonely.{others_line}
use Rattle.capture_compare.specs.declared.lonely.pairs.DifferenceRow.{DifferenceRow}
use Rattle.compare_reports.specs.Prints.{Prints, unless}
use Rattle.compare_reports.specs.Told.{difference_text, differences_texts}
use Rattle.compare_reports.proofs.Printing.{prints-one}
use Rattle.compare_reports.proofs.differing.print_differences.Goals as goal

pub returns : goal.returns
returns g c =
    let prints = g.P.Printer.prints in
    let at = c.args.at in
    let d = c.in-Some.differences in
    let old = c.args.printer.now in
    let middle = c.print_rows.new.printer in
    let new = c.print_others.new.printer in
    let last = unless (d.counted.others == 0) (others_line at d.counted.others) in
    let rows : FoldsTo (Prints prints) old (map (difference_text at) d.counted.rows) middle =
    subst (λ (rows : List DifferenceRow). FoldsTo (Prints prints) old (map (difference_text at) rows) middle) c.rows.ensures c.in_default-print_rows.ensures in
    let others : OnOk c.print_others.result (Prints prints middle last new) =
    subst (λ (n : ℕ). OnOk c.print_others.result (Prints prints middle (unless (n == 0) (others_line at n)) new)) c.others.ensures c.print_others.ensures in
    on_ok_weaker {P = Prints prints middle last new} {Q = FoldsTo (Prints prints) old (differences_texts at c.args.differences.now) new} c.print_others.result
    (λ put. subst (λ (o : Option Differing). FoldsTo (Prints prints) old (differences_texts at o) new) (sym c.in-Some.is)
    (prints-one (Prints prints) old (map (difference_text at) d.counted.rows) middle last new rows put))
    others
