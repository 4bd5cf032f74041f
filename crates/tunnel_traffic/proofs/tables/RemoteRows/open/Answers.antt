use Rattle.tunnel_traffic.proofs.Kept.{none_remotes}
use Rattle.tunnel_traffic.proofs.tables.RemoteRows.open.Goals as goal

pub invariant_of-result : goal.invariant_of-result
invariant_of-result c = rw (c.in_ok-rows.ensures) none_remotes
