use Rattle.std.proofs.Common.{◌≡◌, map, drop}
use Rattle.text_advice.specs.Search.{is_among}
use Rattle.text_advice.proofs.search.is_among.Given as goal

abbrev pub invariant-loop-key : goal.invariant-loop-key
invariant-loop-key l = is_among l.word (map (λ k. k.now) (drop l.key-index l.keys)) ≡ is_among l.word (map (λ k. k.now) l.keys)
