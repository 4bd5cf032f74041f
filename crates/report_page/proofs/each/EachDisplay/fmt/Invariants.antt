use Rattle.std.specs.Fmt.{HasWritten, IsPlainFormatter}
use Rattle.report_page.specs.Texts.{each}
use Rattle.report_page.proofs.each.EachDisplay.fmt.Given as goal

-- the texts of the numbers so far
abbrev pub invariant-loop-index : goal.invariant-loop-index
invariant-loop-index g l =
    IsPlainFormatter l.initial.f → HasWritten g.W.Write.write_str_gives l.initial.f (each (g.P.Parts.part l.self.0) l.index) l.f
