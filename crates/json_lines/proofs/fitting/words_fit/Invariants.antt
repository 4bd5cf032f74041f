use Rattle.std.proofs.Common.{◌≡◌, length, map}
use Rattle.json_lines.specs.Forms.{words_fit}
use Rattle.json_lines.proofs.fitting.words_fit.Given as goal

abbrev pub invariant-loop-rest : goal.invariant-loop-rest
invariant-loop-rest l = words_fit l.rest (map (λ p. p.word.now) l.pieces) ≡ words_fit l.wanted (map (λ p. p.word.now) l.found)

abbrev pub decreases-loop-rest : goal.decreases-loop-rest
decreases-loop-rest l = length l.rest
