use Rattle.std.proofs.Common.{rules, arith}
use Rattle.tunnel_traffic.specs.Tables.{IsEndpoint, IsTraffic, endpoint_key}
use Rattle.tunnel_traffic.proofs.Kept.{kept_remotes}
use Rattle.tunnel_traffic.proofs.tables.RemoteRows.add.Goals as goal

pub invariant_of-self : goal.invariant_of-self
invariant_of-self c =
    let key : IsEndpoint (endpoint_key c.args.kind c.args.address) = record { network = search rules; address = search rules } in
    let traffic : IsTraffic c.args.traffic = record {
      came = omega arith;
      came_octets = omega arith;
      left = omega arith;
      left_octets = omega arith;
      silent = λ came left. absurd (omega (arith, came, left, c.requires));
    } in
    rw (c.add.ensures, c.from_octets-vni.ensures) (kept_remotes c.self.inside.rows (endpoint_key c.args.kind c.args.address) c.args.traffic c.self.invariant key traffic)
