-- An endpoint of which some segments are asked for: what comes to the others is passed over. It states no standard.
use Rattle.std.specs.Prelude.{ℕ, Bool, if◌then◌else◌, Option, Some, Result, Ok, Err}
use Rattle.wire.specs.declared.ether.reason.Refused.{Refused}
use Rattle.segment_set.specs.Segments.{Segments, holds}
use Rattle.endpoint_core.specs.Change.{named}
use Rattle.endpoint_core.specs.Settings.{Settings}
use Rattle.endpoint_core.specs.Arrival.{came_at, came_by}
use Rattle.endpoint_core.specs.Arrival.{Arrival}
use Rattle.endpoint_core.specs.Event.{Input, FrameAt, Packet, Asks, Event}
use Rattle.endpoint_core.specs.Step.{State, after, passed}

-- the segment of a frame that came to one, or that was refused in one
abbrev pub segment_of : Result Arrival Refused → Option ℕ
segment_of (Ok x) = Some x.vid
segment_of (Err refused) = refused.segment

-- the segment that a frame or a packet comes to, or in which it is refused; or that a change names: the one that stands in
-- its decision line
abbrev pub segment_in : Settings → Input → Option ℕ
segment_in S (FrameAt port original b) = segment_of (came_at S.ports S.overlay port original b)
segment_in S (Packet original b) = segment_of (came_by S.overlay original b)
segment_in S (Asks c) = named c

-- an event that is told to whoever asks for these segments
abbrev pub is_told : Segments → State → Event → Bool
is_told segments s e = holds segments (segment_in s.bridges.settings e.input)

-- ---- what isn't told

-- a change is made all the same, for it may be one of settings that all segments stand on; a frame or a packet is passed over
abbrev pub after_untold_input : ℕ → State → Input → State
after_untold_input t s (FrameAt port original b) = passed t s
after_untold_input t s (Packet original b) = passed t s
after_untold_input t s (Asks c) = after s (record { at = t; input = Asks c })

-- the state after an event that isn't told
abbrev pub after_untold : State → Event → State
after_untold s e = after_untold_input e.at s e.input

-- the state after any event
abbrev pub after_among : Segments → State → Event → State
after_among segments s e = if is_told segments s e then after s e else after_untold s e
