use Rattle.std.proofs.Common.{◌≡◌, ◌++◌}
use Rattle.std.specs.List.{flat_map, range_with_len}
use Rattle.std.specs.String.{string_bytes}
use Rattle.timeline.specs.declared.source.Tap.TheVariants.{Port}
use Rattle.run_counts.specs.Keeping.{flow_in, passed}
use Rattle.run_counts.specs.Summary.{place_lines}
use Rattle.run_counts.proofs.lines.put_places.Given as goal

-- the lines of the ports so far
abbrev pub invariant-loop-index : goal.invariant-loop-index
invariant-loop-index l = string_bytes l.text ≡ string_bytes l.fn.text ++ flat_map (λ port. place_lines (passed (flow_in l.came) (flow_in l.left)) (Port port)) (range_with_len 1 l.index)
