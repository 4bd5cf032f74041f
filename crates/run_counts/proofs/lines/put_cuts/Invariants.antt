use Rattle.std.proofs.Common.{◌≡◌, ◌++◌, take}
use Rattle.std.specs.List.{flat_map}
use Rattle.std.specs.String.{string_bytes}
use Rattle.decision_lines.specs.Lines.{cut_line}
use Rattle.run_counts.specs.Keeping.{flow_in}
use Rattle.run_counts.proofs.lines.put_cuts.Given as goal

-- the lines of the cut captures so far
abbrev pub invariant-loop-tap : goal.invariant-loop-tap
invariant-loop-tap l = string_bytes l.text ≡ string_bytes l.fn.text ++ flat_map (λ tap. cut_line (record { tap = tap; whole = (flow_in l.came tap).frames })) (take l.tap-index l.cut)
