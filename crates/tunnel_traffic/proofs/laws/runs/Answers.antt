use Rattle.tunnel_traffic.proofs.Counting.{whole_run}
use Rattle.tunnel_traffic.proofs.laws.runs.Goals as goal

pub returns : goal.returns
returns c = whole_run
