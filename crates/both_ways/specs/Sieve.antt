-- Which events of a run are input, where captures hold what came in and what was sent. It states no standard.
--     is_taken     an event is input
--     cause_at     why it isn't
--     left_outs    what is told of those of some events in a row that aren't
--     taken        those of some events in a row that are
--     behind       what is known behind an event
--     behind_all   what is known behind some events in a row: its counts tell how many records at each place aren't input
use Rattle.std.specs.Prelude.{◌≡◌, refl, ℕ, ◌+◌, ◌-◌, ◌^◌, min, not, Bool, true, is_some}
use Rattle.std.specs.Prelude.{if◌then◌else◌, List, [], ◌∷◌, ◌++◌, length, replicate, set, slice_index, Option, Some, None, option_map}
use Rattle.both_ways.specs.declared.left_out.Cause.{Cause}
use Rattle.both_ways.specs.declared.left_out.Cause.TheVariants.{Echo, Sent}
use Rattle.both_ways.specs.declared.left_out.LeftOut.{LeftOut}
use Rattle.both_ways.specs.declared.sieve.BothWays.{BothWays}
use Rattle.both_ways.specs.Outlets.{kept_outlets}
use Rattle.both_ways.specs.Told.{brought, is_sent, no_places, outlets, place_of, untagged}
use Rattle.echo_window.specs.Echo.{Record, Window, behind_entered, behind_met, echo_of, new_window}
use Rattle.endpoint_core.specs.Arrival.{came_at, came_by}
use Rattle.endpoint_core.specs.Settings.{Settings}
use Rattle.overlay.specs.Ports.{is_port}
use Rattle.overlay.specs.declared.settings.change.TimedChange.{TimedChange}
use Rattle.stream_run.specs.Sieved.{settings_behind}
use Rattle.timeline.specs.Captured.{Captured}
use Rattle.timeline.specs.declared.event.Event.{Event}
use Rattle.timeline.specs.declared.event.Happening.{Happening}
use Rattle.timeline.specs.declared.event.Happening.TheVariants as happenings
use Rattle.timeline.specs.declared.source.Tap.{Tap}
use Rattle.timeline.specs.declared.source.Tap.TheVariants.{Port, Underlay as AtUnderlay}

-- what is known behind some events: the settings in force, and the changes of the run; by the VIDs of segments where each sends
-- frames out; the frames that came in; and for each place by its number how many records were left out there, up to the greatest
-- number of 64 bits
pub record Seen : Type 0 where
  pub settings : Settings
  pub changes : List TimedChange
  pub sends_at : ℕ → List Bool
  pub window : Window
  pub counts : List ℕ

-- no event was met yet: an echo comes at most so many nanoseconds behind its frame
abbrev pub fresh : ℕ → Settings → List TimedChange → Seen
fresh within S changes = record {
  settings = S;
  changes = changes;
  sends_at = outlets S.ports;
  window = new_window within;
  counts = replicate 256 0;
}

-- what the code knows, where these settings are in force and these are the changes of the run
abbrev pub seen_of : BothWays → Settings → List TimedChange → Seen
seen_of b S changes = record {
  settings = S;
  changes = changes;
  sends_at = kept_outlets b.outlets S.ports;
  window = b.window;
  counts = b.left_out;
}

-- ---- a record

-- a record at a port, as a window is asked of it: of its octets without tag, whatever its number
abbrev pub asked_of : ℕ → ℕ → List ℕ → Record
asked_of place moment text = record { place = place; number = 0; moment = moment; frame = text; awaited = no_places }

abbrev pub asked : ℕ → ℕ → List ℕ → Record
asked place moment b = asked_of place moment (untagged b)

-- at a port, it is an echo of a frame that came in
abbrev pub is_echo : Window → ℕ → ℕ → List ℕ → Bool
is_echo w place moment b = is_some (echo_of w.within w.came (asked place moment b))

-- it is input: at a port what is no echo, and at the underlay all that others sent
abbrev pub is_input : Seen → Tap → ℕ → Captured → Bool
is_input s (Port port) moment c = not (is_echo s.window port moment c.octets)
is_input s AtUnderlay moment c = not (is_sent s.settings.overlay.underlay c.octets)

-- why it isn't: at a port it is an echo, at the underlay the endpoint sent it. None: it is
abbrev pub cause_of : Seen → Tap → ℕ → Captured → Option Cause
cause_of s (Port port) moment c = option_map Echo (echo_of s.window.within s.window.came (asked port moment c.octets))
cause_of s AtUnderlay moment c = if is_sent s.settings.overlay.underlay c.octets then Some Sent else None

-- the frames that came in, once it was asked of it
abbrev pub window_asked : Window → Tap → ℕ → Captured → Window
window_asked w (Port port) moment c = behind_met w (asked port moment c.octets)
window_asked w AtUnderlay moment c = w

-- what comes in with it, if it is input, by the settings in force: the frame that it brings to a segment
abbrev pub coming : Settings → (ℕ → List Bool) → Tap → ℕ → ℕ → Captured → Option Record
coming S sends_at (Port port) moment number c =
    if is_port (length S.ports.ports) port then brought sends_at port moment number (came_at S.ports S.overlay port c.original c.octets) else None
coming S sends_at AtUnderlay moment number c = brought sends_at 0 moment number (came_by S.overlay c.original c.octets)

abbrev pub entering : Seen → Tap → ℕ → ℕ → Captured → Option Record
entering s tap moment number c = if is_input s tap moment c then coming s.settings s.sends_at tap moment number c else None

-- the frames that came in, once one came in or none did
abbrev pub window_with : Window → Option Record → Window
window_with w None = w
window_with w (Some r) = behind_entered w r

-- one more at a place
abbrev pub counted : List ℕ → ℕ → List ℕ
counted counts place = set counts place (min (2 ^ 64 - 1) (slice_index counts place + 1))

-- what is known behind a record
abbrev pub record_behind : Seen → Tap → ℕ → ℕ → Captured → Seen
record_behind s tap moment number c = record {
  settings = s.settings;
  changes = s.changes;
  sends_at = s.sends_at;
  window = window_with (window_asked s.window tap moment c) (entering s tap moment number c);
  counts = if is_input s tap moment c then s.counts else counted s.counts (place_of tap);
}

-- ---- an event

-- what happens is input: a change always
abbrev pub happens_in : Seen → ℕ → Happening → Bool
happens_in s moment (happenings.Change index) = true
happens_in s moment (happenings.Record tap c) = is_input s tap moment c

-- what is known with other settings in force
abbrev pub with_settings : Seen → Settings → Seen
with_settings s S = record s { settings = S; sends_at = outlets S.ports }

-- what is known behind what happens
abbrev pub happened : Seen → ℕ → ℕ → Happening → Seen
happened s moment number (happenings.Change index) = with_settings s (settings_behind s.changes (happenings.Change index) s.settings)
happened s moment number (happenings.Record tap c) = record_behind s tap moment number c

-- an event is input
abbrev pub is_taken : Seen → Event → Bool
is_taken s e = happens_in s e.moment e.happening

-- why what happens isn't
abbrev pub cause_then : Seen → ℕ → Happening → Option Cause
cause_then s moment (happenings.Change index) = None
cause_then s moment (happenings.Record tap c) = cause_of s tap moment c

-- why an event isn't
abbrev pub cause_at : Seen → Event → Option Cause
cause_at s e = cause_then s e.moment e.happening

-- what is known behind an event
abbrev pub behind : Seen → Event → Seen
behind s e = happened s e.moment e.number e.happening

-- those of some events in a row that are input
abbrev pub taken : Seen → List Event → List Event
taken s [] = []
taken s (e ∷ es) = if is_taken s e then e ∷ taken (behind s e) es else taken (behind s e) es

-- what is known behind some events in a row
abbrev pub behind_all : Seen → List Event → Seen
behind_all s [] = s
behind_all s (e ∷ es) = behind_all (behind s e) es

-- where an event happens, which is a record
abbrev pub place_in : Happening → ℕ
place_in (happenings.Change index) = 0
place_in (happenings.Record tap c) = place_of tap

-- what is told of an event that isn't input for this cause: nothing of one that is
abbrev pub told_for : Event → Option Cause → List LeftOut
told_for e None = []
told_for e (Some cause) = record { place = place_in e.happening; number = e.number; moment = e.moment; cause = cause } ∷ []

abbrev pub left_out_of : Seen → Event → List LeftOut
left_out_of s e = told_for e (cause_at s e)

-- of each of some events in a row that isn't
abbrev pub left_outs : Seen → List Event → List LeftOut
left_outs s [] = []
left_outs s (e ∷ es) = left_out_of s e ++ left_outs (behind s e) es

-- of none it takes none
pub none_taken : (b : BothWays) (S : Settings) (changes : List TimedChange) → taken (seen_of b S changes) [] ≡ []
none_taken b S changes = refl
