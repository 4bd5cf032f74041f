use Rattle.std.proofs.Common.{◌≡◌, ◌++◌, map, drop}
use Rattle.fabric_grid.specs.Names.{others}
use Rattle.fabric_grid.proofs.few.put_others.Given as goal

-- the titles so far
abbrev pub invariant-loop-title : goal.invariant-loop-title
invariant-loop-title l = l.text.items ++ others (map (λ t. t.now) (drop l.title-index l.titles)) ≡ l.initial.text.items ++ others (map (λ t. t.now) l.titles)
