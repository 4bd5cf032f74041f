use Rattle.std.proofs.Common.{◌≡◌, ◌++◌, map}
use Rattle.std.specs.List.{range_with_len}
use Rattle.filter_db.specs.declared.place.Place.TheVariants.{Local}
use Rattle.tunnel_learning.specs.Bridge.{config_of}
use Rattle.event_story.specs.Bridge.{left_among}
use Rattle.event_story.proofs.flood.put_each_port.Given as goal

-- the ports so far are put
abbrev pub invariant-loop-number : goal.invariant-loop-number
invariant-loop-number l =
    l.facts.items ≡ l.fn.facts.items ++ left_among (config_of l.fn.bridge) l.fn.from (map Local (range_with_len 1 l.number))
