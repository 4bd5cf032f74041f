use Rattle.std.proofs.Common.{◌≡◌, ◌-◌, refl, sym, subst, ℕ, List, Option, Some, None, arith}
use Rattle.std.specs.List.{FoldsTo}
use Rattle.std.proofs.lemmas.Result.{on_ok_weaker}
use Rattle.capture_compare.specs.Counting.{row_at}
use Rattle.capture_compare.specs.declared.lines.counts.Scope.TheVariants as scopes
use Rattle.compare_reports.specs.Prints.{Prints}
use Rattle.compare_reports.specs.Told.{first_texts, row_text, rows_texts}
use Rattle.compare_reports.proofs.Printing.{first-more, prints-one, some-vid}
use Rattle.compare_reports.proofs.segments.print_rows.Goals as goal

pub loop-vid-init : goal.loop-vid-init
unfolding first_texts
loop-vid-init g c = refl

pub loop-vid-preserved : goal.loop-vid-preserved
loop-vid-preserved g c =
    let prints = g.P.Printer.prints in
    let vid : ℕ = c.loop-vid.vid in
    let is : c.new.result ≡ Some vid = some-vid c.new.result vid (c.loop-vid.auto.vid, omega (arith, c.loop-vid-test.true)) c.new.ensures in
    subst (λ (texts : List (Option (List ℕ))). FoldsTo (Prints prints) c.args.printer.now texts c.print_row.new.printer)
    (sym (first-more c.args.rows.now vid c.loop-vid.auto.vid))
    (prints-one (Prints prints) c.args.printer.now (first_texts (vid - 1) c.args.rows.now) c.loop-vid.printer
    (row_text (scopes.Segment vid) (row_at c.args.rows.now (Some vid))) c.print_row.new.printer c.loop-vid.invariant
    (subst (λ (s : Option ℕ). Prints prints c.loop-vid.printer (row_text (scopes.Segment vid) (row_at c.args.rows.now s)) c.print_row.new.printer) is c.in_default.ensures))

pub returns : goal.returns
returns g c =
    let prints = g.P.Printer.prints in
    let all : c.loop-vid.vid - 1 ≡ 4094 = omega (arith, c.loop-vid-test.false, c.loop-vid.auto.vid-end) in
    let last = row_text scopes.NoSegment (row_at c.args.rows.now None) in
    on_ok_weaker {P = Prints prints c.loop-vid.printer last c.print_row-2.new.printer} {Q = FoldsTo (Prints prints) c.args.printer.now (rows_texts c.args.rows.now) c.print_row-2.new.printer}
    c.print_row-2.result
    (λ put. prints-one (Prints prints) c.args.printer.now (first_texts 4094 c.args.rows.now) c.loop-vid.printer last c.print_row-2.new.printer
    (subst (λ (n : ℕ). FoldsTo (Prints prints) c.args.printer.now (first_texts n c.args.rows.now) c.loop-vid.printer) all c.loop-vid.invariant) put)
    c.print_row-2.ensures
