use Rattle.std.proofs.Common.{◌≡◌, ◌++◌, map, List}
use Rattle.std.specs.List.{range_with_len}
use Rattle.std.specs.Option.{option_to_list}
use Rattle.filter_db.specs.declared.place.Place.TheVariants.{Local}
use Rattle.tunnel_learning.specs.Bridge.{config_of}
use Rattle.event_story.specs.Bridge.{left_among}
use Rattle.event_story.specs.Neighbours.{folded}
use Rattle.event_story.specs.declared.fact.Fact.{Fact}
use Rattle.event_story.proofs.flood.put_folded_ports.Given as goal

-- what is put, what is begun and whatever comes: that is the ports so far, and what comes
abbrev pub invariant-loop-number : goal.invariant-loop-number
invariant-loop-number l =
    (rest : List Fact) → l.facts.items ++ folded (option_to_list l.begun ++ rest)
    ≡ l.fn.facts.items ++ folded (left_among (config_of l.fn.bridge) l.fn.from (map Local (range_with_len 1 l.number)) ++ rest)
