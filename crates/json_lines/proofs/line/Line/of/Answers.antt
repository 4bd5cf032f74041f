use Rattle.std.proofs.Common.{arith}
use Rattle.json_lines.proofs.Pieces.{all_found}
use Rattle.json_lines.proofs.line.Line.of.Goals as goal

pub invariant_of-result-2 : goal.invariant_of-result-2
invariant_of-result-2 c =
    all_found c.loop-rest.pieces.items c.loop-rest.rest.now c.args.line.now (omega (arith, c.len.ensures.value, c.loop-rest.invariant.few)) c.loop-rest.invariant.cut
