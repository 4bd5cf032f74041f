use Rattle.std.proofs.Common.{ap, rules}
use Rattle.std.specs.Cmp.{nat_cmp_total}
use Rattle.std.proofs.lemmas.List.Sorted.{answers_always}
use Rattle.overlay.specs.Index.{Listed}
use Rattle.overlay.proofs.SearchLemmas.{searched}
use Rattle.overlay.proofs.underlay.vni_index.VniIndex.search.Goals as goal

pub returns : goal.returns
returns c =
    let facts = c.binary_search_by_key.ensures in
    let by_key = facts.position (λ e. e.0) (answers_always _ _ _ (λ f a r g called. search rules)) in
    rw (← c.get.ensures.value) (searched nat_cmp_total c.deref.result.now c.args.self.now.vids c.get.result c.binary_search_by_key.result (rw c.deref.ensures.value c.self.invariant.0) (rw c.deref.ensures.value (ap (λ (l : Listed). l.vids) c.self.view_is)) facts.bound by_key)
