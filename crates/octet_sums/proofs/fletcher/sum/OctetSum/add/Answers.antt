use Rattle.std.proofs.Common.{◌++◌, take}
use Rattle.octet_sums.proofs.FletcherWords.{sum_joined}
use Rattle.octet_sums.proofs.fletcher.sum.OctetSum.add.Goals as goal

pub returns : goal.returns
returns c before is =
    let octets = c.args.octets.now in
    let at = c.to_word-at.result.1 in
    sum_joined c.with_rest.result before octets at (c.with_rest.ensures (before ++ take at octets) (c.to_word-at.ensures.sum before is))
