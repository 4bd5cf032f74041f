use Rattle.std.proofs.Common.{ℕ, ◌++◌, List, [], ◌∷◌, length, replicate, ap, sym, ◌∙◌, arith, length-append}
use Rattle.std.proofs.lemmas.List.{append_assoc}
use Rattle.shared_tables.proofs.OnTrees.ColumnsLemmas.{replicate_push}
use Rattle.shared_tables.proofs.columns.fill.Goals as goal

pub loop-word-preserved : goal.loop-word-preserved
loop-word-preserved c =
    let k = c.loop-word in
    let before = c.args.numbers.now.items in
    let items = c.push_reserved.ensures.items in
    record {
      items = items ∙ ap (λ (xs : List ℕ). xs ++ c.args.word ∷ []) k.invariant.items ∙ append_assoc before (replicate k._word c.args.word) (c.args.word ∷ []) ∙ ap (λ (xs : List ℕ). before ++ xs) (sym (replicate_push k._word c.args.word));
      size = omega (arith, ap length items, length-append k.numbers.items (c.args.word ∷ []), k.invariant.size);
      room = c.push_reserved.ensures.capacity ∙ k.invariant.room;
    }
