use Rattle.std.proofs.Common.{refl}
use Rattle.octet_sums.proofs.LaneLemmas.{put_first}
use Rattle.octet_sums.proofs.sha256.schedule.last_sigmas.Goals as goal

pub returns : goal.returns
returns c p q r s e =
    let found = c.two_sigmas.ensures r s (rw e refl) in
    put_first c.two_sigmas.result _ _ found.0 found.1 found.2
