use Rattle.std.proofs.Common.{◌≡◌, ◌++◌, length, map}
use Rattle.text_advice.specs.Split.{split}
use Rattle.text_advice.proofs.split.split.Given as goal

abbrev pub invariant-loop-front : goal.invariant-loop-front
invariant-loop-front l = map (λ p. p.now) l.parts.items ++ split l.separator l.rest ≡ split l.separator l.text

abbrev pub decreases-loop-front : goal.decreases-loop-front
decreases-loop-front l = length l.rest
