use Rattle.octet_sums.proofs.Words.{next_is}
use Rattle.octet_sums.proofs.sha256.schedule.next_words.Goals as goal

pub returns : goal.returns
returns c b t most e0 e1 e2 e3 =
    next_is b t most c.args.w0 c.args.w1 c.args.w2 c.args.w3 _ _ _ e0 e1 e2 e3 c.small_sigma0.ensures c.last_sigmas.ensures c.first_sigmas.ensures
