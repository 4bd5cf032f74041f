use Rattle.std.proofs.Common.{◌≡◌, ◌+◌, ◌-◌, ◌*◌, ◌/◌, length, refl, sym, ap, ◌∙◌, arith}
use Rattle.sha2.specs.Sha256.{hash_after}
use Rattle.sha2.proofs.Absorbing256.{hash_after_next}
use Rattle.octet_sums.proofs.sha256.block.take_blocks.Goals as goal

pub each-init : goal.each-init
unfolding hash_after
each-init c = refl

pub each-preserved : goal.each-preserved
each-preserved c =
    let width : c.each.i * 64 + 64 - c.each.i * 64 ≡ 64 = omega arith in
    rw (c.compress.ensures, c.each.invariant, width) (sym (hash_after_next c.args.state.now c.args.octets.now c.each.i))

pub returns : goal.returns
returns c =
    let end : c.each.i ≡ length c.args.octets.now / 64 = omega (arith, c.each.auto.i-end) in
    c.each.invariant ∙ ap (hash_after c.args.state.now c.args.octets.now) end
