use Rattle.std.proofs.Common.{◌≡◌, sym, rules, false}
use Rattle.fabric_ways.specs.Hops.{flood, shares}
use Rattle.fabric_ways.proofs.HopLemmas.{hops_none}
use Rattle.fabric_ways.proofs.hop.hops.Goals as goal

pub returns-then-not-shares : goal.returns-then-not-shares
returns-then-not-shares c =
    let apart : shares c.args.x.now c.args.kind c.args.y.now ≡ false = search rules in
    sym (hops_none c.args.x.now c.args.y.now c.args.kind apart (flood c.args.x.now))
