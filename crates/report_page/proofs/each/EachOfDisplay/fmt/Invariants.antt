use Rattle.std.proofs.Common.{take}
use Rattle.std.specs.Fmt.{HasWritten, IsPlainFormatter}
use Rattle.std.specs.List.{flat_map}
use Rattle.report_page.proofs.each.EachOfDisplay.fmt.Given as goal

-- the texts of the values so far
abbrev pub invariant-loop-value : goal.invariant-loop-value
invariant-loop-value g l =
    IsPlainFormatter l.initial.f
    → HasWritten g.W.Write.write_str_gives l.initial.f (flat_map (g.P.Parts.part l.self.0) (take l.value-index l.self.1.now)) l.f
