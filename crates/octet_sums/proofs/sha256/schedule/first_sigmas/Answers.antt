use Rattle.std.proofs.Common.{refl}
use Rattle.octet_sums.proofs.LaneLemmas.{put_last}
use Rattle.octet_sums.proofs.sha256.schedule.first_sigmas.Goals as goal

pub returns : goal.returns
returns c p q r s e =
    let found = c.two_sigmas.ensures p q (rw e refl) in
    put_last c.two_sigmas.result _ _ found.0 found.1 found.2
