use Rattle.std.proofs.Common.{ℕ, ◌<◌}
use Rattle.fabric_ways.specs.Leads.{Leads}
use Rattle.fabric_ways.specs.Rows.{row_in}
use Rattle.fabric_ways.proofs.ways.is_cyclic.Given as goal

abbrev pub invariant-loop-s : goal.invariant-loop-s
invariant-loop-s l = (k : ℕ) → k < l.s → Leads (row_in l.graph) k k → ⊥
