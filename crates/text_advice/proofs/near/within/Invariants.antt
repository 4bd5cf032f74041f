use Rattle.std.proofs.Common.{◌≡◌, map, drop}
use Rattle.text_advice.specs.Near.{within}
use Rattle.text_advice.proofs.near.within.Given as goal

abbrev pub invariant-loop-key : goal.invariant-loop-key
invariant-loop-key l = within l.most l.word (map (λ k. k.now) (drop l.key-index l.keys)) ≡ within l.most l.word (map (λ k. k.now) l.keys)
