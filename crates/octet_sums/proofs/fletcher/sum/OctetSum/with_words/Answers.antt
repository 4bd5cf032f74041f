use Rattle.std.proofs.Common.{◌++◌, rules, take}
use Rattle.octet_sums.proofs.FletcherWords.{sum_longer}
use Rattle.octet_sums.proofs.fletcher.sum.OctetSum.with_words.Goals as goal

pub loop-at-preserved : goal.loop-at-preserved
loop-at-preserved c = record {
  bound = search rules;
  word = λ more. c.with_block-count.ensures.word;
  sum = λ before is.
      let octets = c.args.octets.now in
      let block = c.with_block-count in
      sum_longer block.result.0 before octets c.loop-at.at block.result.1
      (block.ensures.sum (before ++ take c.loop-at.at octets) (c.loop-at.invariant.sum before is));
}
