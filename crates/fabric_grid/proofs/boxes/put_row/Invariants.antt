use Rattle.std.proofs.Common.{◌≡◌, ◌++◌, map}
use Rattle.fabric_grid.specs.Below.{texts_below}
use Rattle.fabric_grid.specs.Lines.{line_at}
use Rattle.fabric_grid.proofs.boxes.put_row.Given as goal

-- the lines so far
abbrev pub invariant-loop-j : goal.invariant-loop-j
invariant-loop-j l = l.text.items ≡ l.fn.text.items ++ texts_below (line_at l.grid (map (λ n. n.now) l.names) l.i) l.j
