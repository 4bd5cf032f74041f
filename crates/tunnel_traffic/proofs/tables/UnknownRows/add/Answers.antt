use Rattle.std.proofs.Common.{refl, rules, arith}
use Rattle.tunnel_traffic.specs.Traffic.{came_of}
use Rattle.tunnel_traffic.specs.Tables.{ArePackets, IsNetwork}
use Rattle.tunnel_traffic.proofs.Kept.{kept_unknown}
use Rattle.tunnel_traffic.proofs.tables.UnknownRows.add.Goals as goal

pub invariant_of-self : goal.invariant_of-self
invariant_of-self c =
    let key : IsNetwork c.args.key = record { network = search rules; address = search rules } in
    let packets : ArePackets (came_of 0) = record { packets = refl; fits = omega arith } in
    rw (c.add.ensures, c.one_came.ensures) (kept_unknown c.self.inside.rows c.args.key (came_of 0) c.self.invariant key packets)
