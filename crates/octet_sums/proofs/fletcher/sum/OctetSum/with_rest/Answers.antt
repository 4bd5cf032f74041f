use Rattle.std.proofs.Common.{◌++◌, take}
use Rattle.octet_sums.proofs.FletcherWords.{sum_joined}
use Rattle.octet_sums.proofs.fletcher.sum.OctetSum.with_rest.Goals as goal

pub returns : goal.returns
returns c before is =
    let octets = c.args.octets.now in
    let at = c.with_words-at.result.1 in
    sum_joined c.with_each.result before octets at (c.with_each.ensures (before ++ take at octets) (c.with_words-at.ensures.sum before is))
