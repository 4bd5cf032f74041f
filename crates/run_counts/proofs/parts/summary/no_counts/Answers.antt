use Rattle.std.proofs.Common.{◌≡◌, ℕ, List, slice_index_or, sym, subst}
use Rattle.run_counts.proofs.Cells.{zeros}
use Rattle.run_counts.proofs.parts.summary.no_counts.Goals as goal

pub returns-clause-zeros : goal.returns-clause-zeros
returns-clause-zeros c =
    let same = c.in_ok-counts.ensures.items_if_clones_equal (λ n h. h) in
    subst (λ (counts : List ℕ). (i : ℕ) → slice_index_or counts i 0 ≡ 0) (sym same) (zeros 167895)
