use Rattle.tunnel_traffic.proofs.Kept.{none_unknown}
use Rattle.tunnel_traffic.proofs.tables.UnknownRows.open.Goals as goal

pub invariant_of-result : goal.invariant_of-result
invariant_of-result c = rw (c.in_ok-rows.ensures) none_unknown
