-- What leaves an endpoint, and what is told of each event, with the segment in which it was decided.
-- It states no standard.
--     Row, rows      events with what each is answered
--     Departure, departures, departures_in      what leaves, and of that what leaves in a segment
--     Line, lines, lines_in      decision lines without their numbers, and those of a segment
--     records_at, records_in      the records of an output capture, and those that leave in a segment
--     numbered, line_text      decision lines with their numbers, and their octets
use Rattle.std.specs.Prelude.{ℕ, ◌+◌, ◌-◌, ◌&&◌, Bool, List, [], ◌∷◌, ◌++◌, map, filter, slice_index_or, codes, Option, None}
use Rattle.std.specs.List.{flat_map}
use Rattle.pcap.specs.Record.{Record}
use Rattle.timeline.specs.Timeline.{Timeline}
use Rattle.timeline.specs.declared.event.Event.{Event as Happens}
use Rattle.timeline.specs.declared.source.Source.{Source}
use Rattle.timeline.specs.declared.source.Tap.{Tap}
use Rattle.timeline.specs.declared.source.Tap.TheVariants as taps
use Rattle.overlay.specs.Change.{named}
use Rattle.overlay.specs.Settings.{Settings}
use Rattle.endpoint_core.specs.Opened.{settings_told}
use Rattle.endpoint_core.specs.Event.{Input, FrameAt, Packet, Asks, Event}
use Rattle.endpoint_core.specs.Step.{State, Answer, Decided, Replied, opened, answer, after}
use Rattle.endpoint_core.specs.Text.{result_of}
use Rattle.decision_lines.specs.Lines.{front_text, segment_text, reply_text}
use Rattle.capture_run.specs.Outputs.{Outputs}
use Rattle.capture_run.specs.Sendings.{Sending, sent_by, is_at_port, is_at_underlay, record_of}
use Rattle.noninterference.specs.Alone.{is_segment}
use Rattle.noninterference.specs.Coming.{Inputs, coming, source_of}

-- ---- events with their answers

-- an event, and what it was answered
pub record Row : Type 0 where
  pub event : Event
  pub reply : Answer

-- those that come to an endpoint in state s
abbrev pub rows : State → List Event → List Row
rows s [] = []
rows s (e ∷ es) = record { event = e; reply = answer s e } ∷ rows (after s e) es

-- those of a run
abbrev pub rows_of : Settings → Inputs → Timeline → List Row
rows_of s x timeline = rows (opened (settings_told s)) (coming x timeline)

-- ---- what leaves

-- octets that leave at a place at a moment, and the segment in which that was decided
pub record Departure : Type 0 where
  pub segment : Option ℕ
  pub sending : Sending

-- the segment of a decision; a reply has none
abbrev pub decided_in : Answer → Option ℕ
decided_in (Decided decision) = decision.segment
decided_in (Replied fault) = None

-- a sending with its segment
abbrev pub departure : Option ℕ → Sending → Departure
departure segment s = record { segment = segment; sending = s }

-- what leaves by an answer
abbrev pub departing : Row → List Departure
departing row = map (departure (decided_in row.reply)) (sent_by row.event.at row.reply)

-- all that leaves, in order
abbrev pub departures : List Row → List Departure
departures rs = flat_map departing rs

-- and of that what leaves in a segment
abbrev pub departures_in : ℕ → List Row → List Departure
departures_in vid rs = filter (λ d. is_segment vid d.segment) (departures rs)

-- ---- what is told

-- a decision line without its number in the run and that in its source
pub record Line : Type 0 where
  pub moment : ℕ
  pub source : Source
  -- that of the decision, or that which the change names
  pub segment : Option ℕ
  -- where the frame left, why it was dropped, or what became of the change
  pub result : List ℕ

-- the segment that stands in the line
abbrev pub told_in : Input → Answer → Option ℕ
told_in input (Decided decision) = decision.segment
told_in (Asks c) (Replied fault) = named c
told_in (FrameAt port original b) (Replied fault) = None
told_in (Packet original b) (Replied fault) = None

-- the words behind it
abbrev pub result_text : Answer → List ℕ
result_text (Decided decision) = result_of decision
result_text (Replied fault) = reply_text fault

-- the line of an event
abbrev pub line_of : Row → Line
line_of row = record {
  moment = row.event.at;
  source = source_of row.event.input;
  segment = told_in row.event.input row.reply;
  result = result_text row.reply;
}

-- the lines of all events, in order
abbrev pub lines : List Row → List Line
lines rs = map line_of rs

-- and of these the lines of a segment
abbrev pub lines_in : ℕ → List Row → List Line
lines_in vid rs = filter (λ l. is_segment vid l.segment) (lines rs)

-- ---- output captures

-- it leaves at this port, or for the underlay
abbrev pub leaves_at : Tap → Sending → Bool
leaves_at (taps.Port port) s = is_at_port port s
leaves_at taps.Underlay s = is_at_underlay s

-- the records of an output capture, one for each that leaves there
abbrev pub records_at : Tap → List Departure → List Record
records_at output ds = map (λ d. record_of d.sending) (filter (λ d. leaves_at output d.sending) ds)

-- of these the records that leave in the segment
abbrev pub records_in : ℕ → Tap → List Departure → List Record
records_in vid output ds =
    map (λ d. record_of d.sending) (filter (λ d. leaves_at output d.sending && is_segment vid d.segment) ds)

-- the octets of an output capture
abbrev pub capture_at : Tap → Outputs → List ℕ
capture_at (taps.Port port) o = slice_index_or o.ports (port - 1) []
capture_at taps.Underlay o = o.underlay

-- ---- decision lines

-- a decision line with its number in the run and that in its source
pub record Numbered : Type 0 where
  pub number : ℕ
  pub own : ℕ
  pub line : Line

-- the lines of events behind so many others
abbrev pub numbered : ℕ → List Happens → List Row → List Numbered
numbered count [] rs = []
numbered count (h ∷ hs) [] = []
numbered count (h ∷ hs) (row ∷ rs) =
    record { number = count + 1; own = h.number; line = line_of row } ∷ numbered (count + 1) hs rs

-- the octets of a line
abbrev pub line_text : Numbered → List ℕ
line_text n =
    front_text n.number n.line.moment n.line.source n.own
    ++ ((segment_text n.line.segment ++ codes " " ++ n.line.result) ++ 10 ∷ [])
