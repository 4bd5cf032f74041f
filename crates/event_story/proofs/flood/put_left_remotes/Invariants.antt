use Rattle.std.proofs.Common.{◌≡◌, ◌++◌, drop, map, List}
use Rattle.tunnel_learning.specs.Bridge.{Target, config_of, place_of}
use Rattle.event_story.specs.Bridge.{left_among}
use Rattle.event_story.specs.declared.fact.Fact.{Fact}
use Rattle.event_story.proofs.flood.put_left_remotes.Given as goal

-- with the remotes that are left put too, it is all
abbrev pub invariant-loop-target : goal.invariant-loop-target
invariant-loop-target l =
    let told : List Target → List Fact = λ targets. left_among (config_of l.fn.bridge) l.fn.from (map place_of targets) in
    l.facts.items ++ told (drop l.target-index l.target-items) ≡ l.fn.facts.items ++ told (config_of l.fn.bridge).flood
