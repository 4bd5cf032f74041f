use Rattle.std.proofs.Common.{rules, map, List, ℕ, Bor}
use Rattle.std.proofs.lemmas.List.Sorted.{IsNonDecreasingBy-from_sort_by_key}
use Rattle.run_reports.specs.declared.asked.Asked.{Asked}
use Rattle.run_reports.proofs.Listing.{same_in_order}
use Rattle.run_reports.proofs.asked.AskedNames.read.Goals as goal

pub invariant_of-result : goal.invariant_of-result
invariant_of-result c =
    let e = c.sort_unstable_by_key.ensures in
    let names = c.sort_unstable_by_key.new.self.items in
    same_in_order (map (λ (t : Bor (List ℕ)). t.now) c.args.texts.now) c.in_ok-names.names.items names c.in_ok-names.ensures e.permutation
    (IsNonDecreasingBy-from_sort_by_key (λ (a : Asked). a.name.number) names e.sorted (λ a r q k. search rules))
