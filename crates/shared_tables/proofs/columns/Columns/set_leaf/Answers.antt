use Rattle.std.proofs.Common.{◌≡◌, ◌+◌, ◌<◌, length, slice_set, subst, sym}
use Rattle.shared_tables.specs.TreeColumns.{Trees}
use Rattle.shared_tables.proofs.OnTrees.ColumnsLemmas.{split, leaf_set}
use Rattle.shared_tables.proofs.columns.Columns.set_leaf.Goals as goal

pub returns : goal.returns
returns c =
    let a = c.self.inside in
    let there : c.args.slot < length (split a.leaves a.forks a.numbers.items).leaves = subst (λ (w : Trees). c.args.slot < length w.leaves) (sym c.self.view_is) c.requires in
    subst (λ (w : Trees). split a.leaves a.forks (slice_set a.numbers.items (a.leaves + c.args.slot) c.args.number) ≡ record w { leaves = slice_set w.leaves c.args.slot c.args.number }) c.self.view_is
    (leaf_set a.leaves a.forks a.numbers.items c.args.slot c.args.number c.self.invariant.leaves there)
