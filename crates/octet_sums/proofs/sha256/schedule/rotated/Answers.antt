use Rattle.octet_sums.proofs.LaneLemmas.{shifts_rotate}
use Rattle.octet_sums.proofs.sha256.schedule.rotated.Goals as goal

pub returns : goal.returns
returns c = shifts_rotate c.args.by c.requires.0 c.requires.1 c.args.x c.fits-x.0
