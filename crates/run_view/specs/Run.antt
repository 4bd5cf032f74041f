-- The view of a whole run, and its lines. It states no standard.
--     run_items      what is told of all that was seen
--     WritesViews      a run writes the head and these
--     TellsWhatCame      what is read of an interface is what was taken in there
--     TellsTheLines      comments and messages are the decision lines
use Rattle.std.specs.Prelude.{◌≡◌, ◌==◌, ◌≤◌, ◌++◌, ◌∷◌, ℕ, false, if◌then◌else◌, List, [], length}
use Rattle.std.specs.Prelude.{Option, Some, None, ⊤}
use Rattle.std.specs.List.{AllByRecursion, FoldsTo, flat_map}
use Rattle.pcap.specs.Record.{Record}
use Rattle.overlay.specs.declared.settings.change.TimedChange.{TimedChange}
use Rattle.timeline.specs.declared.event.Event.{Event}
use Rattle.endpoint_core.specs.Settings.{Settings}
use Rattle.endpoint_core.specs.Step.{Answer, Decided, Replied, State, opened}
use Rattle.segment_set.specs.Segments.{Segments}
use Rattle.stream_run.specs.Sights.{Sight, sights}
use Rattle.stream_run.specs.Steps.{changes_of}
use Rattle.decision_lines.specs.Lines.{answer_text, line}
use Rattle.decision_objects.specs.Objects.{origin_of}
use Rattle.decision_objects.specs.Onlooking.{named_in}
use Rattle.decision_objects.specs.Writing.{Tells}
use Rattle.run_view.specs.Blocks.{Item, Noted, Shown, head_text, longest_comment, text_of}
use Rattle.run_view.specs.Onlooking.{Ends, Sees, View}
use Rattle.run_view.specs.Reading.{has_left, read_at}
use Rattle.run_view.specs.Told.{told_text}
use Rattle.run_view.specs.View.{items_of, seen_of}
use Rattle.run_view.specs.declared.seen.Seen.{Seen}

-- ---- written

-- of an event that is told
abbrev pub reply_items : ℕ → List TimedChange → ℕ → Event → Option Answer → List Item
reply_items ports changes number e (Some a) = items_of ports (seen_of ports changes number e) a
reply_items ports changes number e None = []

-- of what was seen
abbrev pub items_in : ℕ → List TimedChange → Sight → List Item
items_in ports changes s = reply_items ports changes s.number s.event s.reply

-- of all of it
abbrev pub run_items : ℕ → List TimedChange → List Sight → List Item
run_items ports changes seen = flat_map (items_in ports changes) seen

-- whoever writes a view looked on from the begin of a run of these segments, on so many ports and with these changes, to its end
pub record IsViewed (segments : Segments) (S : Settings) (ports : ℕ) (changes : List TimedChange) (es : List Event)
    (begun ended : View) : Type 0 where
  pub fresh : begun.is_begun ≡ false
  pub of_ports : begun.ports ≡ ports
  pub of_changes : begun.changes ≡ changes
  pub last : View
  pub state : State
  pub seen : FoldsTo Sees begun (sights segments (changes_of changes) (opened S) 0 es) last
  pub ends : Ends last state ended

-- behind such a run, of any events, the head was written and what is told of them; or the front of that at which the output failed
abbrev pub WritesViews : Type 0
WritesViews =
    (segments : Segments) (S : Settings) (ports : ℕ) (changes : List TimedChange) (es : List Event) (begun ended : View)
    → IsViewed segments S ports changes es begun ended
    → Tells begun.told ended.told
    (head_text ports ++ text_of (run_items ports changes (sights segments (changes_of changes) (opened S) 0 es)))

-- ---- read again

-- the record of an event that is answered as a frame or a packet is, if it came at this interface
abbrev pub record_by : ℕ → Seen → Answer → List Record
record_by q seen (Decided d) =
    if q == seen.interface then record { moment = seen.origin.moment; original = seen.original; octets = seen.octets } ∷ [] else []
record_by q seen (Replied fault) = []

-- of an event that is told
abbrev pub reply_record : ℕ → ℕ → List TimedChange → ℕ → Event → Option Answer → List Record
reply_record ports q changes number e (Some a) = record_by q (seen_of ports changes number e) a
reply_record ports q changes number e None = []

-- of what was seen
abbrev pub record_in : ℕ → ℕ → List TimedChange → Sight → List Record
record_in ports q changes s = reply_record ports q changes s.number s.event s.reply

-- a law: what is read of an interface is what was taken in there, each at its event's moment
abbrev pub TellsWhatCame : Type 0
TellsWhatCame = (ports q : ℕ) (changes : List TimedChange) (seen : List Sight)
    → flat_map (read_at q) (run_items ports changes seen) ≡ flat_map (record_in ports q changes) seen

-- ---- the lines

-- the line of what came, and a message
abbrev pub line_told : Item → List ℕ
line_told (Shown p r) = if has_left r then [] else r.comment ++ 10 ∷ []
line_told (Noted moment message) = message ++ 10 ∷ []

-- the decision line of an event that is told
abbrev pub reply_line : List TimedChange → ℕ → Event → Option Answer → List ℕ
reply_line changes number e (Some a) = line number e (answer_text (named_in changes e) a)
reply_line changes number e None = []

-- of what was seen
abbrev pub line_in : List TimedChange → Sight → List ℕ
line_in changes s = reply_line changes s.number s.event s.reply

-- no line is longer than a comment
abbrev pub IsShortReply : List TimedChange → ℕ → Event → Option Answer → Type 0
IsShortReply changes number e (Some a) = length (told_text (origin_of number e) (named_in changes e) a) ≤ longest_comment
IsShortReply changes number e None = ⊤

-- of what was seen
abbrev pub IsShort : List TimedChange → Sight → Type 0
IsShort changes s = IsShortReply changes s.number s.event s.reply

-- a law: they are the decision lines, in order
abbrev pub TellsTheLines : Type 0
TellsTheLines = (ports : ℕ) (changes : List TimedChange) (seen : List Sight) → AllByRecursion (IsShort changes) seen
    → flat_map line_told (run_items ports changes seen) ≡ flat_map (line_in changes) seen
