use Rattle.std.proofs.Common.{◌≤◌, length, get_or, sym, ap, ◌∙◌, arith}
use Rattle.std.proofs.lemmas.List.{get_or_read}
use Rattle.shared_tables.specs.TreeColumns.{Trees}
use Rattle.shared_tables.proofs.OnTrees.ColumnsLemmas.{root_read}
use Rattle.shared_tables.proofs.columns.Columns.root.Goals as goal

pub returns : goal.returns
returns c =
    let a = c.self.inside in
    let h = c.self.invariant in
    let fits : a.leaves ≤ length a.numbers.items = omega (arith, h.leaves, h.forks) in
    get_or_read a.numbers.items c.args.tree c.index.result.now (omega (arith, c.requires, h.roots, fits)) c.index.ensures 4294967295
    ∙ sym (root_read a.leaves a.forks a.numbers.items c.args.tree 0 h.leaves h.roots fits 4294967295 c.requires)
    ∙ ap (λ (w : Trees). get_or w.words c.args.tree 4294967295) c.self.view_is
