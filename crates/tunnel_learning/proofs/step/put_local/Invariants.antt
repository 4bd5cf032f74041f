use Rattle.std.proofs.Common.{◌≡◌, ◌≤◌, ◌+◌, ◌++◌, length, map}
use Rattle.std.specs.List.{filter}
use Rattle.filter_db.specs.declared.place.Place.TheVariants.{Local}
use Rattle.tunnel_learning.specs.Bridge.{config_of, is_local_outlet, local_places}
use Rattle.tunnel_learning.proofs.BridgeLemmas.{AreMembers}
use Rattle.tunnel_learning.proofs.step.put_local.Given as goal

abbrev pub invariant-loop-port : goal.invariant-loop-port
invariant-loop-port l = record {
  items : l.places.items ++ filter (is_local_outlet (config_of l.fn.bridge) l.fn.from) (map Local l.members)
      ≡ l.fn.places.items ++ local_places (config_of l.fn.bridge) l.fn.from;
  there : AreMembers l.row l.members;
  few : length l.places.items + length l.members ≤ 255;
}

abbrev pub decreases-loop-port : goal.decreases-loop-port
decreases-loop-port l = length l.members
