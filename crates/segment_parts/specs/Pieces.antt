-- A run in parts: which segments each part is asked for, and which pieces of the run it writes. It states no standard.
--     Told, pieces_of      the pieces of a run, each with the segment that stands in its line
--     pieces_in, all_pieces      those of a part, and all
--     IsAsked, PartAll      what can be asked for, and sets of segments that part it
--     HasVids, NamesVid      settings and changes that know no other segments
--     state_among, counted_among      the state of a part after events, and what it counted
use Rattle.std.specs.Prelude.{◌≡◌, ℕ, ◌+◌, true, if◌then◌else◌, List, [], ◌∷◌, map, filter, count_by, Option, Some, None}
use Rattle.std.specs.List.{zip}
use Rattle.wire.specs.Tag.{IsVid}
use Rattle.filter_db.specs.declared.place.Place.{Place}
use Rattle.filter_db.specs.declared.place.Place.TheVariants.{Local, Remote}
use Rattle.overlay.specs.Ports as ports
use Rattle.overlay.specs.Overlay as overlay
use Rattle.pcap.specs.Written.{written_record}
use Rattle.timeline.specs.Timeline.{Timeline}
use Rattle.timeline.specs.declared.event.Event.{Event as Happens}
use Rattle.timeline.specs.declared.source.Tap.{Tap}
use Rattle.timeline.specs.declared.source.Tap.TheVariants as taps
use Rattle.overlay.specs.Change.{named}
use Rattle.overlay.specs.declared.settings.change.Change.{Change}
use Rattle.endpoint_core.specs.Settings.{Settings}
use Rattle.endpoint_core.specs.Counts.{Counts}
use Rattle.endpoint_core.specs.Event.{Event}
use Rattle.endpoint_core.specs.Step.{State, Answer}
use Rattle.endpoint_core.specs.Run.{decisions}
use Rattle.capture_run.specs.Outputs.{event_of, input_of, line_of}
use Rattle.capture_run.specs.Sendings.{Sending, sent_by, record_of}
use Rattle.noninterference.specs.Leaving.{told_in}
use Rattle.segment_set.specs.Segments.{Segments, holds}
use Rattle.endpoint_core.specs.Among.{after_among}
use Rattle.part_merge.specs.Merged.{Piece}

-- ---- the pieces of a run

-- a piece, and the segment that stands in its line
pub record Told : Type 0 where
  pub segment : Option ℕ
  pub piece : Piece

-- the capture of what leaves at a place
abbrev pub tap_of : Place → Tap
tap_of (Local port) = taps.Port port
tap_of (Remote kind addr) = taps.Underlay

-- the record of a sending, and the capture that it stands in
abbrev pub record_in : Sending → Tap × List ℕ
record_in s = (tap_of s.place, written_record (record_of s))

-- the texts of an event with its answer, by its number in the run
abbrev pub piece_of : List Change → ℕ → Happens × Answer → Piece
piece_of changes number row = record {
  number = number;
  line = line_of changes number row;
  records = map record_in (sent_by row.0.moment row.1);
}

-- the same with the segment
abbrev pub told_of : List Change → ℕ → Happens × Answer → Told
told_of changes number row = record { segment = told_in (input_of changes row.0.happening) row.1; piece = piece_of changes number row }

-- the events are numbered on from this many
abbrev pub told_from : List Change → ℕ → List (Happens × Answer) → List Told
told_from changes count [] = []
told_from changes count (row ∷ rows) = told_of changes (count + 1) row ∷ told_from changes (count + 1) rows

-- the pieces of a whole run, one for each event
abbrev pub pieces_of : Settings → List Change → Timeline → List Told
pieces_of S changes timeline = told_from changes 0 (zip timeline.events (decisions S [] (map (event_of changes) timeline.events)))

-- the pieces alone
abbrev pub all_pieces : List Told → List Piece
all_pieces ts = map (λ (t : Told). t.piece) ts

-- those that are told to whoever asks for these segments
abbrev pub pieces_in : Segments → List Told → List Piece
pieces_in segments ts = all_pieces (filter (λ (t : Told). holds segments t.segment) ts)

-- ---- the parts

-- what can be asked for: the segments by their VIDs, and what comes to none
abbrev pub IsAsked : Option ℕ → Type 0
IsAsked None = Unit {0}
IsAsked (Some vid) = IsVid vid

-- of these sets exactly one has each of that
abbrev pub PartAll : List Segments → Type 0
PartAll parts = (x : Option ℕ) → IsAsked x → count_by (λ (part : Segments). holds part x) parts ≡ 1

-- there are no segments but by VIDs
pub record HasVids (S : Settings) : Type 0 where
  pub members : (vid : ℕ) → ports.has_segment S.ports vid ≡ true → IsVid vid
  pub tunnels : (vid : ℕ) → overlay.has_segment S.overlay vid ≡ true → IsVid vid

-- a change names none but by its VID
abbrev pub NamesVid : Change → Type 0
NamesVid c = IsAsked (named c)

-- ---- the state of a part

-- after events, one after another
abbrev pub state_among : Segments → State → List Event → State
state_among segments s [] = s
state_among segments s (e ∷ es) = state_among segments (after_among segments s e) es

-- the counts of the segments that are asked for, and none of others
abbrev pub counted_among : Segments → Counts → Counts
counted_among segments counts = λ segment number. if holds segments segment then counts segment number else 0
