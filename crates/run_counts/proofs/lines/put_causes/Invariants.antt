use Rattle.std.proofs.Common.{◌≡◌, ◌++◌, take}
use Rattle.std.specs.List.{flat_map}
use Rattle.std.specs.String.{string_bytes}
use Rattle.run_counts.specs.Keeping.{refusals_in}
use Rattle.run_counts.specs.Summary.{refused_line}
use Rattle.run_counts.proofs.lines.put_causes.Given as goal

-- the lines of the causes so far
abbrev pub invariant-loop-cause : goal.invariant-loop-cause
invariant-loop-cause l = string_bytes l.text ≡ string_bytes l.fn.text ++ flat_map (refused_line (refusals_in l.refusals)) (take l.cause-index l.causes)
