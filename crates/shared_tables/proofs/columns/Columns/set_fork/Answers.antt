use Rattle.std.proofs.Common.{◌≡◌, ◌+◌, slice_set, subst}
use Rattle.shared_tables.specs.TreeColumns.{Trees}
use Rattle.shared_tables.proofs.OnTrees.ColumnsLemmas.{split, fork_set}
use Rattle.shared_tables.proofs.columns.Columns.set_fork.Goals as goal

pub returns : goal.returns
returns c =
    let a = c.self.inside in
    subst (λ (w : Trees). split a.leaves a.forks (slice_set a.numbers.items (a.forks + c.args.fork) c.args.number) ≡ record w { forks = slice_set w.forks c.args.fork c.args.number }) c.self.view_is
    (fork_set a.leaves a.forks a.numbers.items c.args.fork c.args.number c.self.invariant.leaves)
