use Rattle.std.proofs.Common.{◌++◌, ◌∙◌, List, length, map, sym, ap, subst, arith}
use Rattle.std.specs.List.{filter}
use Rattle.filter_db.specs.declared.place.Place.{Place}
use Rattle.filter_db.specs.declared.place.Place.TheVariants.{Local}
use Rattle.tunnel_learning.specs.Bridge.{config_of, is_local_outlet}
use Rattle.tunnel_learning.proofs.BridgeLemmas.{AreMembers, all-members, few-members, local-members}
use Rattle.tunnel_learning.proofs.step.put_local.Goals as goal

pub loop-port-init : goal.loop-port-init
loop-port-init c =
    let row = c.row-row.result in
    let from = c.args.from.now in
    let walk = c.members-members.ensures in
    record {
      items = ap (λ (z : List Place). c.args.places.now.items ++ z)
          (ap (λ ports. filter (is_local_outlet (config_of c.args.bridge.now) from) (map Local ports)) walk ∙ local-members c.args.bridge.now row from c.row-row.ensures.value);
      there = subst (AreMembers row) (sym walk) (all-members row);
      few = omega (arith, c.requires, ap length walk, few-members row, c.row-row.ensures.few);
    }
