-- The story of an event: what each test saw, and then the decision line. It states no standard.
use Rattle.std.specs.Prelude.{ℕ, nat_le, ◌&&◌, Bool, true, if◌then◌else◌, List, [], ◌++◌, length, slice_get, None, Result, Ok, Err}
use Rattle.std.specs.Option.{option_map_or}
use Rattle.wire.specs.declared.ether.reason.Refused.{Refused}
use Rattle.overlay.specs.Ports.{is_port}
use Rattle.timeline.specs.declared.event.Event.{Event as Happens}
use Rattle.timeline.specs.declared.event.Happening.{Happening}
use Rattle.timeline.specs.declared.event.Happening.TheVariants as happenings
use Rattle.timeline.specs.declared.source.Tap.TheVariants as taps
use Rattle.endpoint_core.specs.State.{State as Bridges, aged}
use Rattle.endpoint_core.specs.Arrival.{Arrival}
use Rattle.endpoint_core.specs.Arrival.{came_at, came_by}
use Rattle.endpoint_core.specs.Decision.{Decision}
use Rattle.endpoint_core.specs.Event.{frame_at, packet_at}
use Rattle.endpoint_core.specs.Step.{State, Answer, answer, decided}
use Rattle.decision_lines.specs.Lines.{line, answer_text}
use Rattle.overlay.specs.declared.settings.change.TimedChange.{TimedChange}
use Rattle.change_story.specs.Story.{change_story}
use Rattle.event_story.specs.Bridge.{bridge_facts}
use Rattle.event_story.specs.Line.{facts_text}
use Rattle.event_story.specs.Local.{local_facts}
use Rattle.event_story.specs.Outlets.{outlet_facts}
use Rattle.event_story.specs.Packet.{packet_facts}
use Rattle.event_story.specs.declared.fact.Fact.{Fact}

-- what the bridge of its segment makes of a frame that comes to one at moment t, of which this is decided, and how it
-- leaves at each outlet: in the state that the last event left, and in the same at that moment
abbrev pub came_facts : ℕ → Bridges → Bridges → Result Arrival Refused → Decision → List Fact
came_facts t left B (Ok x) d = bridge_facts t left B x d.dropped ++ outlet_facts B.settings x.vid x.frame d.outcomes
came_facts t left B (Err refused) d = []

-- what there is to tell of octets at a local port, at moment t
abbrev pub frame_facts : ℕ → Bridges → Bridges → ℕ → ℕ → List ℕ → List Fact
frame_facts t left B port original b =
    let came = came_at B.settings.ports B.settings.overlay port original b in
    local_facts B.settings.ports B.settings.overlay port original b ++ came_facts t left B came (decided t B came)

-- what there is to tell of a packet of the underlay, at moment t
abbrev pub arrival_facts : ℕ → Bridges → Bridges → ℕ → List ℕ → List Fact
arrival_facts t left B original b =
    let came = came_by B.settings.overlay original b in
    packet_facts B.settings.overlay original b ++ came_facts t left B came (decided t B came)

-- the lines of facts, and the decision line of an event of this number, by what it is answered
abbrev pub told : ℕ → Happens → List Fact → Answer → List ℕ
told number e facts replied = facts_text facts ++ line number e (answer_text None replied)

-- there is such a port
abbrev pub is_there : ℕ → Happening → Bool
is_there ports (happenings.Record (taps.Port port) c) = is_port ports port
is_there ports _ = true

-- an event can come to an endpoint in this state: it isn't before the last one, and it is at a port that is there
abbrev pub can_come : State → Happens → Bool
can_come s e = nat_le s.moment e.moment && is_there (length s.bridges.settings.ports.ports) e.happening

-- the story of a frame or a packet; that of a change is told apart
abbrev pub story_of : State → ℕ → Happens → Happening → List ℕ
story_of s number e (happenings.Change index) = []
story_of s number e (happenings.Record (taps.Port port) c) =
    told number e (frame_facts e.moment s.bridges (aged e.moment s.bridges) port c.original c.octets)
    (answer s (frame_at e.moment port c.original c.octets))
story_of s number e (happenings.Record taps.Underlay c) =
    told number e (arrival_facts e.moment s.bridges (aged e.moment s.bridges) c.original c.octets)
    (answer s (packet_at e.moment c.original c.octets))

-- the story of an event of this number that comes to an endpoint in this state; nothing, where it can't come
abbrev pub story : State → ℕ → Happens → List ℕ
story s number e = if can_come s e then story_of s number e e.happening else []

-- the story of an event of a run with these changes: that of a change that is there, or else as above
abbrev pub run_story_of : List TimedChange → State → ℕ → Happens → Happening → List ℕ
run_story_of changes s number e (happenings.Change index) =
    option_map_or (λ (c : TimedChange). change_story s number e c.change) (slice_get changes index) []
run_story_of changes s number e (happenings.Record tap c) = story s number e

-- by what happens
abbrev pub run_story : List TimedChange → State → ℕ → Happens → List ℕ
run_story changes s number e = run_story_of changes s number e e.happening
