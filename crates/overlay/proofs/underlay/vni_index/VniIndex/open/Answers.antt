use Rattle.std.proofs.Common.{◌∙◌, ap, subst, sym, T, arith, ℕ, List}
use Rattle.std.specs.Ordering.{nat_cmp}
use Rattle.std.specs.FinMap.{from_sorted, is_sorted}
use Rattle.std.specs.Cmp.{nat_cmp_total}
use Rattle.overlay.specs.Index.{Index, Listed}
use Rattle.overlay.proofs.SearchLemmas.{from_sorted-none}
use Rattle.overlay.proofs.underlay.vni_index.VniIndex.open.Goals as goal

pub returns : goal.returns
returns c = ap (λ (m : Index). let l : Listed = record { vids = m; most = c.args.most } in l) (ap (λ (l : List (ℕ × ℕ)). from_sorted {R = nat_cmp} l) c.in_ok-with_capacity.ensures.items ∙ from_sorted-none nat_cmp_total)

pub invariant_of-result : goal.invariant_of-result
invariant_of-result c = (subst (λ (l : List (ℕ × ℕ)). T (is_sorted nat_cmp l)) (sym c.in_ok-with_capacity.ensures.items) tt, omega (arith, c.in_ok-with_capacity.ensures.exact))
