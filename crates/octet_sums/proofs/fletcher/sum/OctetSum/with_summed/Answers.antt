use Rattle.std.proofs.Common.{◌∙◌, ◌+◌, ◌/◌}
use Rattle.octet_sums.proofs.FletcherWords.{reduced_second}
use Rattle.octet_sums.proofs.fletcher.sum.OctetSum.with_summed.Goals as goal

pub returns-clause-second : goal.returns-clause-second
returns-clause-second c rising e =
    c.reduced-2.ensures
    ∙ rw (c.from.ensures, c.from-3.ensures)
    (reduced_second c.args.self.second (c.args.self.octets / 8 + c.args.count / 8 + 1) c.args.first rising c.args.falling e)
