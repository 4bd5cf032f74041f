use Rattle.std.proofs.Common.{◌≡◌, List, ◌++◌, drop, map}
use Rattle.filter_db.specs.declared.place.Place.{Place}
use Rattle.endpoint_core.specs.Held.{settings_of}
use Rattle.endpoint_core.specs.Step.{sent_at}
use Rattle.event_story.specs.declared.fact.Fact.{Fact}
use Rattle.event_story.specs.Outlets.{outlet_facts}
use Rattle.event_story.proofs.outlets.put_outlet_facts.Given as goal

-- with the outlets that are left put too, it is all
abbrev pub invariant-loop-place : goal.invariant-loop-place
invariant-loop-place l =
    let S = settings_of l.state in
    let told : List Place → List Fact = λ places. outlet_facts S l.vid l.frame (map (sent_at S l.vid l.frame) places) in
    l.facts.items ++ told (drop l.place-index l.places) ≡ l.fn.facts.items ++ told l.places
