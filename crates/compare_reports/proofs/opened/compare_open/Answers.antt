use Rattle.std.proofs.Common.{◌∙◌, refl, ap, subst, ℕ, Option}
use Rattle.capture_compare.specs.declared.aside.Aside.{Aside}
use Rattle.compare_reports.specs.Whole.{IsPrinted, lines_of}
use Rattle.compare_reports.specs.declared.place_lines.PlaceLines.{PlaceLines}
use Rattle.compare_reports.proofs.opened.compare_open.Goals as goal

pub returns : goal.returns
returns g c =
    let at = c.args.report.now.asked.at in
    let outcome = c.in-Ok.outcome in
    let told = c.compare_shown.new.report in
    record {
      told = told;
      printed = c.print_outcome-printed.new.report;
      outcome = outcome;
      shown = c.in-Ok.ensures;
      ended = c.in_default.is;
      counts_are = refl;
      lines = subst (λ (l : PlaceLines). IsPrinted g.P.Printer.prints told l c.print_outcome-printed.new.report)
          (c.lines_of-lines.ensures ∙ ap (λ (n : ℕ). lines_of at outcome n told.order.behind c.aside_of-aside.result) c.doubled-doubled.ensures
          ∙ ap (λ (a : Option Aside). lines_of at outcome told.recent.doubled told.order.behind a) c.aside_of-aside.ensures) c.in_default-printed.ensures;
      ends = c.in_default-print_ends.ensures;
    }
