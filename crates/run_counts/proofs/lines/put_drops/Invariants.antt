use Rattle.std.proofs.Common.{◌≡◌, ◌++◌, take}
use Rattle.std.specs.List.{flat_map}
use Rattle.std.specs.String.{string_bytes}
use Rattle.run_counts.specs.Summary.{dropped_line}
use Rattle.run_counts.proofs.lines.put_drops.Given as goal

-- the lines of the reasons so far
abbrev pub invariant-loop-reason : goal.invariant-loop-reason
invariant-loop-reason g l = string_bytes l.text ≡ string_bytes l.fn.text ++ flat_map (dropped_line (g.C.Counted.counts l.counts) l.segment) (take l.reason-index l.reasons)
