use Rattle.std.proofs.Common.{◌≡◌, ◌++◌, map, drop}
use Rattle.text_advice.specs.Advice.{key_words}
use Rattle.text_advice.proofs.report.put_key_words.Given as goal

abbrev pub invariant-loop-key : goal.invariant-loop-key
invariant-loop-key l = l.text.items ++ key_words (map (λ k. k.now) (drop l.key-index l.keys)) ≡ l.initial.text.items ++ key_words (map (λ k. k.now) l.keys)
