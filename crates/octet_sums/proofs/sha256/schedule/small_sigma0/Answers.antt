use Rattle.octet_sums.proofs.LaneLemmas.{sigma0_lanes}
use Rattle.octet_sums.proofs.sha256.schedule.small_sigma0.Goals as goal

pub returns : goal.returns
returns c = rw (c.rotated.ensures, c.rotated-2.ensures) (sigma0_lanes c.args.x c.fits-x.0)
