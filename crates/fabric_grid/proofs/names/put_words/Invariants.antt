use Rattle.std.proofs.Common.{◌≡◌, ◌++◌, map}
use Rattle.fabric_grid.specs.Below.{texts_below}
use Rattle.fabric_grid.specs.Names.{word}
use Rattle.fabric_grid.proofs.names.put_words.Given as goal

-- the names so far
abbrev pub invariant-loop-x : goal.invariant-loop-x
invariant-loop-x l = l.text.items ≡ l.fn.text.items ++ texts_below (word (map (λ n. n.now) l.names) l.set l.wanted) l.x
