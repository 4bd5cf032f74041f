use Rattle.fabric_ways.specs.Picture.{HasRow}
use Rattle.fabric_ways.proofs.ways.push_row.Given as goal

abbrev pub invariant-loop-j : goal.invariant-loop-j
invariant-loop-j l = HasRow l.initial.cells.items l.cells.items l.x l.net l.found l.j
