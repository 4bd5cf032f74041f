use Rattle.std.proofs.Common.{◌<◌, ◌∙◌, false, subst, arith}
use Rattle.overlay.proofs.WordLemmas.{Put, stands-stood}
use Rattle.overlay.proofs.ports.words.remove.Goals as goal

pub returns-clause-stands : goal.returns-clause-stands
returns-clause-stands c =
    let small : c.args.vid < 4096 = omega (arith, c.get.ensures.in_range) in
    stands-stood c.args.words.now c.put.new.words c.args.vid false small
    (subst (λ k. Put c.put.new.words c.args.words.now k 0 false) (c.from.ensures ∙ c.get.ensures.value) c.put.ensures)
