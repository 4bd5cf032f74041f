use Rattle.std.proofs.Common.{◌≡◌, ◌++◌, map}
use Rattle.fabric_grid.specs.Below.{texts_below}
use Rattle.fabric_grid.specs.Lines.{part_text}
use Rattle.fabric_grid.proofs.parts.put_parts.Given as goal

-- the parts so far
abbrev pub invariant-loop-i : goal.invariant-loop-i
invariant-loop-i l = l.text.items ≡ l.fn.text.items ++ texts_below (part_text l.grid (map (λ n. n.now) l.names)) l.i
