use Rattle.std.proofs.Common.{ℕ, ◌++◌, List, [], ◌∷◌, length, ap, sym, ◌∙◌, arith, length-append}
use Rattle.std.specs.List.{range_with_len}
use Rattle.std.proofs.lemmas.List.{append_assoc}
use Rattle.shared_tables.proofs.OnTrees.TreesOfLemmas.{numbers_push}
use Rattle.shared_tables.proofs.columns.count_up.Goals as goal

pub loop-number-preserved : goal.loop-number-preserved
loop-number-preserved c =
    let k = c.loop-number in
    let before = c.args.numbers.now.items in
    let items = c.push_reserved.ensures.items in
    record {
      items = items ∙ ap (λ (xs : List ℕ). xs ++ k.number ∷ []) k.invariant.items ∙ append_assoc before (range_with_len 0 k.number) (k.number ∷ []) ∙ ap (λ (xs : List ℕ). before ++ xs) (sym (numbers_push k.number));
      size = omega (arith, ap length items, length-append k.numbers.items (k.number ∷ []), k.invariant.size);
      room = c.push_reserved.ensures.capacity ∙ k.invariant.room;
    }
