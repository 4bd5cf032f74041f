use Rattle.std.proofs.Common.{◌≡◌, ◌++◌, map}
use Rattle.fabric_grid.specs.Below.{texts_below}
use Rattle.fabric_grid.specs.Lines.{row_lines}
use Rattle.fabric_grid.proofs.boxes.put_boxes.Given as goal

-- the lines so far
abbrev pub invariant-loop-i : goal.invariant-loop-i
invariant-loop-i l = l.text.items ≡ l.fn.text.items ++ texts_below (row_lines l.grid (map (λ n. n.now) l.names)) l.i
