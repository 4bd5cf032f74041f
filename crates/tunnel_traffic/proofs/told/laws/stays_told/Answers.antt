use Rattle.tunnel_traffic.proofs.Kept.{told_both}
use Rattle.tunnel_traffic.proofs.told.laws.stays_told.Goals as goal

pub returns : goal.returns
returns c = told_both
