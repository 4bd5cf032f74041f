use Rattle.std.proofs.Common.{◌<◌, ◌+◌, ◌/◌, ◌∙◌, true, subst, arith}
use Rattle.overlay.proofs.WordLemmas.{Put, stands-stood, stands-cleared, or_same}
use Rattle.overlay.proofs.ports.words.add.Goals as goal

pub returns-clause-stands : goal.returns-clause-stands
returns-clause-stands c v less =
    let small : c.args.vid < 4096 = omega (arith, c.get.ensures.in_range) in
    stands-stood c.clear.new.words c.put.new.words c.args.vid true small
    (subst (λ k. Put c.put.new.words c.clear.new.words k 0 true) (c.from.ensures ∙ c.get.ensures.value) c.put.ensures) v less
    ∙ or_same v c.args.vid _ _ (λ ne. stands-cleared c.clear.new.words c.args.words.now c.args.vid (c.args.ports / 64 + 1) small c.clear.ensures v less ne)
