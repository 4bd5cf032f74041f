use Rattle.std.proofs.Common.{◌+◌, arith, rules}
use Rattle.wire.specs.Sum.{pseudo6}
use Rattle.wire.proofs.SumLemmas.{sent-parts, total-pseudo6}
use Rattle.wire.proofs.octets.ip6.udp6_sum.Goals as goal

pub returns : goal.returns
returns c =
    sent-parts pseudo6 c.args.src c.args.dst c.args.first.now c.args.second.now c.args.third.now (c.words.result + c.words-2.result) _
    (λ d len. total-pseudo6 c.args.src c.args.dst d len (search rules) (search rules)) c.requires.fits (omega arith) c.datagram_sum.ensures
