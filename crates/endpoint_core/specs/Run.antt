-- A run of an endpoint as one learning bridge for each segment, each asked by the events of its own segment alone.
-- It states no standard.
--     settings_after      the settings in force after events
--     events_of      the events of one segment
--     entries_of      the table of the bridge of one segment, put through these
--     decision      what an event is answered, by the bridge of its segment
use Rattle.std.specs.Prelude.{ℕ, ◌==◌, ◌&&◌, Bool, false, if◌then◌else◌, List, [], ◌∷◌, ◌++◌, is_none, Option, Some, None, Result, Ok, Err}
use Rattle.std.specs.List.{flat_map}
use Rattle.std.specs.FinMap.{empty}
use Rattle.wire.specs.declared.ether.reason.Refused.{Refused}
use Rattle.filter_db.specs.Table.{Table}
use Rattle.overlay.specs.declared.settings.change.Change.{Change}
use Rattle.endpoint_core.specs.Settings.{Settings, SegmentSettings, segment_at}
use Rattle.endpoint_core.specs.Change.{is_about, refused, changed, entries_changed}
use Rattle.endpoint_core.specs.State.{State as Bridges, live_in}
use Rattle.endpoint_core.specs.StateStep.{table_learned}
use Rattle.endpoint_core.specs.Arrival.{Arrival}
use Rattle.endpoint_core.specs.Arrival.{came_at, came_by}
use Rattle.endpoint_core.specs.Decision.{Decision}
use Rattle.endpoint_core.specs.Event.{Input, FrameAt, Packet, Asks, Event}
use Rattle.endpoint_core.specs.Step.{Answer, Decided, Replied, answer_by}

-- ---- the settings in force

-- after one event: a change may change them
abbrev pub settings_after_input : Settings → Input → Settings
settings_after_input S (FrameAt port original b) = S
settings_after_input S (Packet original b) = S
settings_after_input S (Asks c) = changed S c

-- after events
abbrev pub settings_after : Settings → List Event → Settings
settings_after S [] = S
settings_after S (e ∷ es) = settings_after (settings_after_input S e.input) es

-- ---- the bridge of one segment

-- a frame or packet comes to the segment of this VID
abbrev pub comes_to : ℕ → Result Arrival Refused → Bool
comes_to vid (Ok x) = vid == x.vid
comes_to vid (Err refused) = false

-- an event of the segment: a frame that comes to it, or a change that names it or is of a port, and that the settings
-- don't refuse
abbrev pub is_own : ℕ → Settings → Input → Bool
is_own vid S (FrameAt port original b) = comes_to vid (came_at S.ports S.overlay port original b)
is_own vid S (Packet original b) = comes_to vid (came_by S.overlay original b)
is_own vid S (Asks c) = is_none (refused S c) && is_about vid c

-- the events of a segment, each with the settings before it
abbrev pub events_of : ℕ → Settings → List Event → List (Settings × Event)
events_of vid S [] = []
events_of vid S (e ∷ es) =
    let rest = events_of vid (settings_after_input S e.input) es in
    if is_own vid S e.input then (S, e) ∷ rest else rest

-- the entries of a segment behind a frame that came to it, or that was refused
abbrev pub entries_after_frame : Option SegmentSettings → ℕ → Result Arrival Refused → Table → Table
entries_after_frame segment t (Ok x) m = table_learned t x.from x.frame segment m
entries_after_frame segment t (Err refused) m = m

-- and behind a change; a segment that comes begins without entries
abbrev pub entries_after_change : Option SegmentSettings → ℕ → Change → Table → Table
entries_after_change None t c m = empty
entries_after_change (Some s) t c m = entries_changed t s c m

-- what an event of the segment leaves of its table, which has what is live at moment t
abbrev pub entries_after : Settings → Option SegmentSettings → ℕ → Input → Table → Table
entries_after S segment t (FrameAt port original b) m = entries_after_frame segment t (came_at S.ports S.overlay port original b) m
entries_after S segment t (Packet original b) m = entries_after_frame segment t (came_by S.overlay original b) m
entries_after S segment t (Asks c) m = entries_after_change segment t c m

-- the table ages to the moment of the event, and then takes it
abbrev pub entries_with : ℕ → Settings → Event → Table → Table
entries_with vid S e m = entries_after S (segment_at S vid) e.at e.input (live_in (S.bridges vid) e.at m)

-- a table put through the events of its segment
abbrev pub entries_through : ℕ → Table → List (Settings × Event) → Table
entries_through vid m [] = m
entries_through vid m (o ∷ os) = entries_through vid (entries_with vid o.0 o.1 m) os

-- the table of the bridge of a segment, which began empty, after events that began with settings S: its own alone make it
abbrev pub entries_of : ℕ → Settings → List Event → Table
entries_of vid S es = entries_through vid empty (events_of vid S es)

-- the bridges of all segments after events, as they are at moment t
abbrev pub bridges_at : ℕ → Settings → List Event → Bridges
bridges_at t S es =
    let now = settings_after S es in
    record { settings = now; tables = λ vid. live_in (now.bridges vid) t (entries_of vid S es) }

-- ---- decisions

-- what event e is answered after the events es
abbrev pub decision : Settings → List Event → Event → Answer
decision S es e = answer_by e.at (bridges_at e.at S es) e.input

-- the answers to events that come after those before
abbrev pub decisions : Settings → List Event → List Event → List Answer
decisions S before [] = []
decisions S before (e ∷ es) = decision S before e ∷ decisions S (before ++ e ∷ []) es

-- what is decided of frames and packets
abbrev pub decided_of : Answer → List Decision
decided_of (Decided decision) = decision ∷ []
decided_of (Replied fault) = []

-- the decisions among some answers
abbrev pub decided_of_all : List Answer → List Decision
decided_of_all answers = flat_map decided_of answers
