-- What is seen of a run by whoever looks on. It states no standard.
--     Due      an event that comes, and how the endpoint stands before it
--     IsBrought, CanBeTaken      the frame that it brings to a segment
--     Sight      the same, and what the event is answered, or that it isn't told
--     sights      those of events one after another
use Rattle.std.specs.Prelude.{◌≡◌, ℕ, ◌+◌, ◌≤◌, if◌then◌else◌, true, List, [], ◌∷◌, length, Option, Some, None, IsSome, Result, IfOk}
use Rattle.wire.specs.declared.ether.reason.Refused.{Refused}
use Rattle.overlay.specs.declared.settings.change.Change.{Change}
use Rattle.timeline.specs.declared.event.Event.{Event}
use Rattle.timeline.specs.declared.event.Happening.{Happening}
use Rattle.timeline.specs.declared.event.Happening.TheVariants as happenings
use Rattle.timeline.specs.declared.source.Tap.TheVariants.{Port, Underlay}
use Rattle.endpoint_core.specs.Settings.{Settings, segment_at}
use Rattle.endpoint_core.specs.Sound.{is_reached}
use Rattle.endpoint_core.specs.Arrival.{came_at, came_by}
use Rattle.endpoint_core.specs.Arrival.{Arrival}
use Rattle.endpoint_core.specs.Step.{Answer, State, answer}
use Rattle.capture_run.specs.Outputs.{event_of}
use Rattle.endpoint_core.specs.Among.{after_among, is_told}
use Rattle.segment_set.specs.Segments.{Segments}

-- an event that comes to an endpoint
pub record Due : Type 0 where
  -- that of the endpoint just before the event
  pub state : State
  -- of the event in the run, from 1
  pub number : ℕ
  pub event : Event

-- the same, made of what a call is lent
abbrev pub due : State → ℕ → Event → Due
due state number event = record { state = state; number = number; event = event }

-- what an event brings: of a frame at a port and a packet at the underlay what comes to a segment, or why nothing does
abbrev pub IsBrought : Settings → Happening → Result Arrival Refused → Type 0
IsBrought S (happenings.Change index) came = Unit {0}
IsBrought S (happenings.Record (Port port) captured) came =
    (1 ≤ port) × (port ≤ length S.ports.ports) × (came ≡ came_at S.ports S.overlay port captured.original captured.octets)
IsBrought S (happenings.Record Underlay captured) came = came ≡ came_by S.overlay captured.original captured.octets

-- what came to a segment, or to none, can be taken there: the segment is there, the frame is no longer than any, and where it
-- came from is reached in the segment
pub record CanBeTaken (S : Settings) (came : Result Arrival Refused) : Type 0 where
  pub there : IfOk came (λ x. IsSome (segment_at S x.vid))
  pub short : IfOk came (λ x. length x.frame.body ≤ 65549)
  pub reached : IfOk came (λ x. is_reached S.overlay x.vid x.from ≡ true)

-- an event that came, and what it was answered
pub record Sight : Type 0 where
  pub state : State
  pub number : ℕ
  pub event : Event
  -- None: it isn't told to the segments that are asked for
  pub reply : Option Answer

-- an event with this answer
abbrev pub answered : Due → Answer → Sight
answered c a = record { state = c.state; number = c.number; event = c.event; reply = Some a }

-- an event that isn't told
abbrev pub untold : Due → Sight
untold c = record { state = c.state; number = c.number; event = c.event; reply = None }

-- an event, as an endpoint in this state answers it, where it is told to these segments
abbrev pub sight_among : Segments → List Change → State → ℕ → Event → Sight
sight_among segments changes s number e =
    if is_told segments s (event_of changes e) then answered (due s number e) (answer s (event_of changes e)) else untold (due s number e)

-- events that come one after another behind so many others: each finds the endpoint as the one before left it, told or not
abbrev pub sights : Segments → List Change → State → ℕ → List Event → List Sight
sights segments changes s count [] = []
sights segments changes s count (e ∷ es) =
    sight_among segments changes s (count + 1) e ∷ sights segments changes (after_among segments s (event_of changes e)) (count + 1) es

-- how an endpoint stands behind events
abbrev pub state_among : Segments → List Change → State → List Event → State
state_among segments changes s [] = s
state_among segments changes s (e ∷ es) = state_among segments changes (after_among segments s (event_of changes e)) es
