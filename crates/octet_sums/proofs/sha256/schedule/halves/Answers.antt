use Rattle.octet_sums.proofs.LaneLemmas.{half_lanes}
use Rattle.octet_sums.proofs.sha256.schedule.halves.Goals as goal

pub returns : goal.returns
returns c p q e =
    let fits = rw e at c.fits-x.1 in
    rw e (half_lanes p q fits.0.fits fits.1.0.fits)
