use Rattle.std.proofs.Common.{◌≡◌, ◌≤◌, ◌+◌, ◌++◌, length, map, drop}
use Rattle.std.specs.List.{filter}
use Rattle.tunnel_learning.specs.Bridge.{config_of, is_remote_outlet, place_of, remote_places}
use Rattle.tunnel_learning.proofs.step.put_remote.Given as goal

abbrev pub invariant-loop-target : goal.invariant-loop-target
invariant-loop-target l = record {
  items : l.places.items ++ filter (is_remote_outlet (config_of l.fn.bridge) l.fn.from) (map place_of (drop l.target-index l.target-items)) ≡ l.fn.places.items ++ remote_places (config_of l.fn.bridge) l.fn.from;
  few : length l.places.items ≤ 255 + l.target-index;
}
