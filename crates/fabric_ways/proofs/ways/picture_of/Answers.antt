use Rattle.std.proofs.Common.{ℕ, ◌<◌, List, length, Vec, Global, sym, subst}
use Rattle.fabric_ways.specs.Leads.{IsBelow, Leads}
use Rattle.fabric_ways.specs.Rows.{row_in}
use Rattle.fabric_ways.proofs.PictureLemmas.{IsBelow-steps, acyclic-steps}
use Rattle.fabric_ways.proofs.ways.picture_of.Goals as goal

abbrev Below : List (Vec ℕ Global) → Type 0
Below graph = IsBelow (length graph) (row_in graph)

abbrev Acyclic : List (Vec ℕ Global) → Type 0
Acyclic graph = (s : ℕ) → s < length graph → Leads (row_in graph) s s → ⊥

pub is_cyclic-requires : goal.is_cyclic-requires
is_cyclic-requires c =
    subst Below (sym c.as_slice.ensures.value) (IsBelow-steps c.in_ok-graph.graph.items c.args.net.now c.in_ok-graph.ensures.size c.in_ok-graph.ensures.rows)

pub cells_of-requires-clause-below : goal.cells_of-requires-clause-below
cells_of-requires-clause-below c =
    subst Below (sym c.as_slice-2.ensures.value) (IsBelow-steps c.in_ok-graph.graph.items c.args.net.now c.in_ok-graph.ensures.size c.in_ok-graph.ensures.rows)

pub returns : goal.returns
returns c = (
  acyclic-steps c.in_ok-graph.graph.items c.args.net.now c.in_ok-graph.ensures.size c.in_ok-graph.ensures.rows
      (subst Acyclic c.as_slice.ensures.value (c.in_ok-is_cyclic.ensures.acyclic c.if-branch.false)),
  c.in_ok-cells.ensures,
)
