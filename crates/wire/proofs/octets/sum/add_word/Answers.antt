use Rattle.std.proofs.Common.{◌≡◌, ◌∙◌, ◌+◌, ◌*◌, refl, drop, arith}
use Rattle.std.specs.Int.{from_bool}
use Rattle.wire.specs.Sum.{total}
use Rattle.wire.proofs.FoldLemmas.{folded-word8, folded-carry, carry-word}
use Rattle.wire.proofs.octets.sum.add_word.Goals as goal

pub returns : goal.returns
returns c =
    let text = c.args.text.now in
    let carried = from_bool c.plus.result.1 in
    let before = c.args.sum + from_bool c.args.carry in
    let is : c.plus.result.0 + (carried + 65535 * (281479271743489 * carried)) ≡ before + c.read_u64.result = omega (arith, c.plus.ensures, carry-word c.plus.result.1) in
    folded-carry c.plus.result.0 carried _ (before + c.read_u64.result) (total (drop 8 text)) refl is
    ∙ rw c.read_u64.ensures (folded-word8 text before c.requires)
