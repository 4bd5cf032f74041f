use Rattle.std.proofs.Common.{◌<◌, ◌+◌, ℕ, ◌%◌, subst, arith}
use Rattle.overlay.proofs.WordLemmas.{Put, stands-put}
use Rattle.overlay.proofs.ports.words.set_egress.Goals as goal

pub returns-clause-stands : goal.returns-clause-stands
returns-clause-stands c =
    let small : c.args.vid < 4096 = omega (arith, c.place_of-place.ensures.value, c.place_of-place.ensures.below) in
    let place = c.place_of-place.result in
    let first = subst (λ (k : ℕ). Put c.put.new.words c.args.words.now k (c.args.port % 64) c.is_some.result) c.place_of-place.ensures.value
    (subst (λ (b : ℕ). Put c.put.new.words c.args.words.now place b c.is_some.result) c.bit_of-bit.ensures c.put.ensures) in
    let second = subst (λ (k : ℕ). Put c.put-2.new.words c.put.new.words (k + 4096) (c.args.port % 64) c.is_untagged.result) c.place_of-place.ensures.value
    (subst (λ (b : ℕ). Put c.put-2.new.words c.put.new.words (place + 4096) b c.is_untagged.result) c.bit_of-bit.ensures c.put-2.ensures) in
    stands-put c.args.words.now c.put.new.words c.put-2.new.words c.args.vid c.args.port c.is_some.result c.is_untagged.result small first second c.requires.low
