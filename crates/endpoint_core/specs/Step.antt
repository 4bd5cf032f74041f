-- An endpoint as a machine over events. It states no standard.
--     State, opened      its state, and the one that it begins with
--     decided      what is decided of a frame or a packet
--     answer, after      what it answers to an event, and its state then
--     answers, state_after      the same of many events, one after another
use Rattle.std.specs.Prelude.{ℕ, ◌==◌, Bool, false, List, [], ◌∷◌, map, length, Option, Some, Result, Ok, Err}
use Rattle.std.specs.FinMap.{empty}
use Rattle.wire.specs.Frame.{Frame}
use Rattle.wire.specs.declared.ether.reason.Reason.{Reason}
use Rattle.wire.specs.declared.ether.reason.Refused.{Refused}
use Rattle.filter_db.specs.declared.place.Place.{Place}
use Rattle.overlay.specs.Overlay.{Overlay, segment_at as overlay_segment}
use Rattle.std.specs.Option.{option_map_or}
use Rattle.endpoint_core.specs.declared.state.fault.ChangeFault.{ChangeFault}
use Rattle.endpoint_core.specs.Settings.{Settings}
use Rattle.endpoint_core.specs.State.{State as Bridges, aged, fault, after_change}
use Rattle.endpoint_core.specs.StateStep.{verdict, after_frame}
use Rattle.endpoint_core.specs.Arrival.{Arrival}
use Rattle.endpoint_core.specs.Arrival.{came_at, came_by, emitted, emitted_parts}
use Rattle.endpoint_core.specs.Counts.{Counts, no_counts, counted}
use Rattle.endpoint_core.specs.Decision.{Sent, Decision, refused_as, dropped_in, forwarded}
use Rattle.endpoint_core.specs.Event.{Input, FrameAt, Packet, Asks, Event}
use Rattle.endpoint_core.specs.declared.decision.Outcome.{Outcome}

-- the state of an endpoint
pub record State : Type 0 where
  -- the settings in force, and of each segment's table what is live at the moment
  pub bridges : Bridges
  -- how often each thing was decided
  pub counts : Counts
  -- that of the last event, 0 before the first
  pub moment : ℕ

-- it begins with empty tables
abbrev pub opened : Settings → State
opened S = record { bridges = record { settings = S; tables = λ vid. empty }; counts = no_counts; moment = 0 }

-- ---- a frame in a segment

-- the segment of this VID has two tunnels
abbrev pub has_two_tunnels : Overlay → ℕ → Bool
has_two_tunnels overlay vid = option_map_or (λ segment. length segment.tunnels == 2) (overlay_segment overlay vid) false

-- what is sent of a frame at a place
abbrev pub sent_at : Settings → ℕ → Frame → Place → Sent
sent_at S vid f place = record { place = place; sent = emitted S.ports S.overlay vid f place }

-- the same in its parts
abbrev pub outcome_at : Settings → ℕ → Frame → Place → Outcome
outcome_at S vid f place = record { place = place; sent = emitted_parts S.ports S.overlay vid f place }

-- the outlets, each with what is sent there; or why there are none
abbrev pub by_verdict : Settings → Arrival → Result (List Place) Reason → Decision
by_verdict S x (Ok places) = forwarded x.vid (has_two_tunnels S.overlay x.vid) (map (sent_at S x.vid x.frame) places)
by_verdict S x (Err reason) = dropped_in (Some x.vid) reason

-- what the bridge of its segment decides of a frame at moment t
abbrev pub decided_in : ℕ → Bridges → Arrival → Decision
decided_in t B x = by_verdict B.settings x (verdict t x.vid x.from x.frame B)

-- what is decided of a frame or a packet: by the bridge of its segment where it comes to one, else why it
-- comes to none
abbrev pub decided : ℕ → Bridges → Result Arrival Refused → Decision
decided t B (Ok x) = decided_in t B x
decided t B (Err refused) = refused_as refused

-- the bridges after it: that of its segment learns where the source stands
abbrev pub after_came : ℕ → Bridges → Result Arrival Refused → Bridges
after_came t B (Ok x) = after_frame t x.vid x.from x.frame B
after_came t B (Err refused) = B

-- ---- an event

-- what an event is answered: a decision of a frame or packet, or a reply to a change
pub data Answer : Type 0 where
  Decided : (decision : Decision) → Answer
  -- None: the change is made
  Replied : (fault : Option ChangeFault) → Answer

-- the answer at moment t, by the bridges at that moment
abbrev pub answer_by : ℕ → Bridges → Input → Answer
answer_by t B (FrameAt port original b) = Decided (decided t B (came_at B.settings.ports B.settings.overlay port original b))
answer_by t B (Packet original b) = Decided (decided t B (came_by B.settings.overlay original b))
answer_by t B (Asks c) = Replied (fault B c)

-- the bridges after it
abbrev pub bridges_after : ℕ → Bridges → Input → Bridges
bridges_after t B (FrameAt port original b) = after_came t B (came_at B.settings.ports B.settings.overlay port original b)
bridges_after t B (Packet original b) = after_came t B (came_by B.settings.overlay original b)
bridges_after t B (Asks c) = after_change t c B

-- decisions are counted, and changes aren't
abbrev pub counts_after : Counts → Answer → Counts
counts_after counts (Decided decision) = counted counts decision
counts_after counts (Replied fault) = counts

-- what an endpoint answers to an event: its bridges age to the moment of the event, and then take it
abbrev pub answer : State → Event → Answer
answer s e = answer_by e.at (aged e.at s.bridges) e.input

-- its state after the event; what is dead under the ageing that is then in force is gone
abbrev pub after : State → Event → State
after s e = record {
  bridges = aged e.at (bridges_after e.at (aged e.at s.bridges) e.input);
  counts = counts_after s.counts (answer s e);
  moment = e.at;
}

-- the same of a frame or a packet that came to a segment, or to none
abbrev pub after_coming : ℕ → Result Arrival Refused → State → State
after_coming t came s = record {
  bridges = aged t (after_came t (aged t s.bridges) came);
  counts = counted s.counts (decided t (aged t s.bridges) came);
  moment = t;
}

-- time passes, and nothing comes
abbrev pub passed : ℕ → State → State
passed t s = record { bridges = aged t s.bridges; counts = s.counts; moment = t }

-- ---- many events

-- the state after events, one after another
abbrev pub state_after : State → List Event → State
state_after s [] = s
state_after s (e ∷ es) = state_after (after s e) es

-- the answers to events, one after another
abbrev pub answers : State → List Event → List Answer
answers s [] = []
answers s (e ∷ es) = answer s e ∷ answers (after s e) es

-- the moment of the last event, or the one before them all
abbrev pub last_moment : ℕ → List Event → ℕ
last_moment t [] = t
last_moment t (e ∷ es) = last_moment e.at es
