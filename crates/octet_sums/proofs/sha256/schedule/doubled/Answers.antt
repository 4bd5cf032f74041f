use Rattle.octet_sums.proofs.LaneLemmas.{doubled_lanes}
use Rattle.octet_sums.proofs.sha256.schedule.doubled.Goals as goal

pub returns : goal.returns
returns c a b e =
    let fits = rw e at c.fits-x.1 in
    rw e (doubled_lanes a b fits.0.fits fits.1.1.0.fits)
