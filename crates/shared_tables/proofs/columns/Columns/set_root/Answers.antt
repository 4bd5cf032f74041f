use Rattle.std.proofs.Common.{◌≡◌, ◌≤◌, length, slice_set, subst, arith}
use Rattle.shared_tables.specs.TreeColumns.{Trees}
use Rattle.shared_tables.proofs.OnTrees.ColumnsLemmas.{split, root_written}
use Rattle.shared_tables.proofs.columns.Columns.set_root.Goals as goal

pub returns : goal.returns
returns c =
    let a = c.self.inside in
    let h = c.self.invariant in
    let fits : a.leaves ≤ length a.numbers.items = omega (arith, h.leaves, h.forks) in
    subst (λ (w : Trees). split a.leaves a.forks (slice_set a.numbers.items c.args.tree c.args.word) ≡ record w { words = slice_set w.words c.args.tree c.args.word }) c.self.view_is
    (root_written a.leaves a.forks a.numbers.items c.args.tree c.args.word h.leaves h.roots fits c.requires)
