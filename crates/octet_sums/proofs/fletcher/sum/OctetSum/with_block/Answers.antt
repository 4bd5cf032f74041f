use Rattle.std.proofs.Common.{◌≤◌, ◌+◌, ◌%◌, ℕ, ◌∙◌, ap, arith, length, refl, sym, take}
use Rattle.std.proofs.lemmas.List.{length-take-le, take_rest}
use Rattle.byteorder.specs.Endian.{little_number}
use Rattle.octet_sums.specs.Sums.{in_text, prime, weighed}
use Rattle.octet_sums.proofs.FletcherWords.{sum_more, word_more}
use Rattle.octet_sums.proofs.fletcher.sum.OctetSum.with_block.Goals as goal

pub loop-at-preserved : goal.loop-at-preserved
loop-at-preserved c =
    let xs = c.args.octets.now in
    let at = c.loop-at.at in
    let inv = c.loop-at.invariant in
    let long : at + 8 ≤ length xs = omega (arith, inv.bound, c.loop-at-test.true, c.min-most.ensures) in
    let most : at + 8 ≤ 65536 = omega (arith, inv.bound, c.loop-at-test.true, c.min-most.ensures) in
    let read = c.from-first.ensures ∙ c.read_u64-word.ensures ∙ ap (little_number 8) (take_rest xs at) in
    let more = word_more xs c.args.self.octets at c.from-first.result c.loop-at.first c.loop-at.falling c.requires.word inv.word long read inv.first inv.second in
    let word_fits = c.read_u64-word.type_inv in
    let same = c.from-first.ensures in
    record {
      bound = omega (arith, inv.bound, c.loop-at-test.true);
      word = omega (arith, inv.word);
      first = more.0;
      second = more.1;
      first_fits = omega (arith, inv.first_fits, word_fits, same, inv.word);
      falling_fits = omega (arith, inv.first_fits, inv.falling_fits, word_fits, same, inv.word, most);
    }

pub returns-clause-sum : goal.returns-clause-sum
returns-clause-sum c before =
    let xs = c.args.octets.now in
    let at = c.loop-at.at in
    let inv = c.loop-at.invariant in
    let long : at ≤ length xs = omega (arith, inv.bound, c.min-most.ensures) in
    sum_more c.args.self c.with_summed.result before (take at xs) at c.loop-at.first (weighed in_text c.args.self.octets (take at xs))
    (sym (length-take-le at xs long)) c.with_summed.ensures.octets c.with_summed.ensures.first
    (c.with_summed.ensures.second (weighed in_text c.args.self.octets (take at xs)) inv.second) (ap (λ (n : ℕ). n % prime) inv.first) refl
