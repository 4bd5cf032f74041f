use Rattle.std.proofs.Common.{◌≡◌, ◌++◌, drop}
use Rattle.std.specs.List.{flat_map}
use Rattle.decision_lines.specs.Lines.{cut_line}
use Rattle.explanation.proofs.packets.put_cuts.Given as goal

-- with what is left put too, it is all
abbrev pub invariant-loop-cut : goal.invariant-loop-cut
invariant-loop-cut l = l.text.items ++ flat_map cut_line (drop l.cut-index l.cuts) ≡ l.fn.text.items ++ flat_map cut_line l.cuts
