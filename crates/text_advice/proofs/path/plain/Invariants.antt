use Rattle.std.proofs.Common.{◌≡◌, [], map, drop}
use Rattle.text_advice.specs.Path.{plain}
use Rattle.text_advice.proofs.path.plain.Given as goal

abbrev pub invariant-loop-part : goal.invariant-loop-part
invariant-loop-part l = plain l.path.items (map (λ p. p.now) (drop l.part-index l.parts)) ≡ plain [] (map (λ p. p.now) l.parts)
