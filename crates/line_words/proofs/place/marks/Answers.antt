use Rattle.std.proofs.Common.{eqb, w8, arith}
use Rattle.std.proofs.lemmas.Simd.{bitmask_splat, length-chunk}
use Rattle.std.specs.Simd.Lanes.{chunk}
use Rattle.line_words.proofs.place.marks.Goals as goal

pub returns : goal.returns
returns c =
    let long = length-chunk c.args.start 16 c.args.text.now c.requires in
    bitmask_splat w8 eqb (chunk c.args.start 16 c.args.text.now) 16 c.args.octet long (omega arith)
