use Rattle.std.proofs.Common.{◌≡◌, ◌++◌, ◌-◌, Some}
use Rattle.std.specs.List.{flat_map, range_with_len}
use Rattle.std.specs.String.{string_bytes}
use Rattle.run_counts.specs.Summary.{segment_lines}
use Rattle.run_counts.proofs.lines.put_segments.Given as goal

-- the lines of the segments so far
abbrev pub invariant-loop-number : goal.invariant-loop-number
invariant-loop-number g l = string_bytes l.text ≡ string_bytes l.fn.text ++ flat_map (λ vid. segment_lines (g.C.Counted.counts l.counts) (Some vid)) (range_with_len 1 (l.number - 1))
