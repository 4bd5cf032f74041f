-- Decisions as JSON objects: one for each event, and one for each capture that ends with a cut rest. The keys of an object stand
-- in alphabetical order, and behind it ends its line. No word in it needs an escape (RFC 8259, 7).
--     origin_of      where an event stands in the run and in its source
--     outcomes_text      what came of each place
--     object_of      the object of an event and its answer
--     cut_object      the object of a cut capture
use Rattle.std.specs.Prelude.{ℕ, Bool, if◌then◌else◌, List, [], ◌∷◌, ◌++◌, codes, decimal, Option, Some, None, Result, Ok, Err}
use Rattle.wire.specs.Reason.{name_of, number_of}
use Rattle.wire.specs.declared.ether.reason.Reason.{Reason}
use Rattle.timeline.specs.declared.event.Event.{Event}
use Rattle.timeline.specs.declared.source.Source.{Source}
use Rattle.timeline.specs.declared.timeline.Cut.{Cut}
use Rattle.timeline.specs.Words.{source_of, source_word, tap_word}
use Rattle.encapsulate.specs.Remote.{sizes}
use Rattle.endpoint_core.specs.declared.state.fault.ChangeFault.{ChangeFault}
use Rattle.endpoint_core.specs.Fault as change
use Rattle.endpoint_core.specs.Decision.{Sent}
use Rattle.endpoint_core.specs.Step.{Answer, Decided, Replied}
use Rattle.endpoint_core.specs.Text.{place_text}
use Rattle.decision_objects.specs.declared.origin.Origin.{Origin}

-- ---- parts of an object

-- an event with its number in the run
abbrev pub origin_of : ℕ → Event → Origin
origin_of number e = record { event = number; moment = e.moment; source = source_of e.happening; number = e.number }

-- its number and its moment
abbrev pub event_text : Origin → List ℕ
event_text o = codes "\"event\":" ++ decimal o.event ++ codes ",\"moment\":\"" ++ decimal o.moment ++ codes "\""

-- its number in its source
abbrev pub number_text : Origin → List ℕ
number_text o = codes ",\"number\":" ++ decimal o.number

-- the VID of a segment, where there is one
abbrev pub segment_text : Option ℕ → List ℕ
segment_text (Some vid) = decimal vid
segment_text None = codes "null"

-- the segment and the source, and the end of the object and its line
abbrev pub end_text : Option ℕ → Source → List ℕ
end_text segment source = codes ",\"segment\":" ++ segment_text segment ++ codes ",\"source\":\"" ++ source_word source ++ codes "\"}\n"

-- ---- what comes of a frame or a packet

-- so many octets left at a place, or none for a reason
abbrev pub count_text : List ℕ → Result ℕ Reason → List ℕ
count_text place (Ok count) = codes "{\"octets\":" ++ decimal count ++ codes ",\"place\":\"" ++ place ++ codes "\"}"
count_text place (Err reason) = codes "{\"fault\":\"" ++ name_of reason ++ codes "\",\"place\":\"" ++ place ++ codes "\"}"

-- a place, and what came of it
abbrev pub outcome_text : Bool → Sent → List ℕ
outcome_text two_tunnels o = count_text (place_text two_tunnels o.place) (sizes o.sent)

-- each behind a comma
abbrev pub further_text : Bool → List Sent → List ℕ
further_text two_tunnels [] = []
further_text two_tunnels (o ∷ os) = codes "," ++ outcome_text two_tunnels o ++ further_text two_tunnels os

-- what stands before an outcome: a comma, but nothing before the first
abbrev pub gap : Bool → List ℕ
gap is_first = if is_first then [] else codes ","

-- with a comma between two
abbrev pub outcomes_text : Bool → List Sent → List ℕ
outcomes_text two_tunnels [] = []
outcomes_text two_tunnels (o ∷ os) = outcome_text two_tunnels o ++ further_text two_tunnels os

-- what leaves
abbrev pub sent_object : Origin → Option ℕ → Bool → List Sent → List ℕ
sent_object o segment two_tunnels outcomes =
    codes "{" ++ event_text o ++ number_text o ++ codes ",\"outcomes\":[" ++ outcomes_text two_tunnels outcomes
    ++ codes "],\"result\":\"sent\"" ++ end_text segment o.source

-- a drop
abbrev pub drop_object : Origin → Option ℕ → Reason → List ℕ
drop_object o segment reason =
    codes "{" ++ event_text o ++ codes ",\"name\":\"" ++ name_of reason ++ codes "\"" ++ number_text o
    ++ codes ",\"reason\":" ++ decimal (number_of reason) ++ codes ",\"result\":\"drop\"" ++ end_text segment o.source

-- either
abbrev pub result_object : Origin → Option ℕ → Bool → Option Reason → List Sent → List ℕ
result_object o segment two_tunnels (Some reason) outcomes = drop_object o segment reason
result_object o segment two_tunnels None outcomes = sent_object o segment two_tunnels outcomes

-- ---- what a change is answered

-- done, or refused with the number and the name of the cause
abbrev pub reply_object : Origin → Option ℕ → Option ChangeFault → List ℕ
reply_object o named None = codes "{" ++ event_text o ++ number_text o ++ codes ",\"result\":\"done\"" ++ end_text named o.source
reply_object o named (Some fault) =
    codes "{\"cause\":" ++ decimal (change.number_of fault) ++ codes "," ++ event_text o ++ codes ",\"name\":\""
    ++ change.name_of fault ++ codes "\"" ++ number_text o ++ codes ",\"result\":\"refused\"" ++ end_text named o.source

-- ---- whole objects

-- of an event and its answer; of a change the segment that it names
abbrev pub object_text : Origin → Option ℕ → Answer → List ℕ
object_text o named (Decided d) = result_object o d.segment d.two_tunnels d.dropped d.outcomes
object_text o named (Replied fault) = reply_object o named fault

-- the same of the event of this number in the run
abbrev pub object_of : ℕ → Event → Option ℕ → Answer → List ℕ
object_of number e named a = object_text (origin_of number e) named a

-- of a capture that ends with a cut rest behind so many whole records
abbrev pub cut_object : Cut → List ℕ
cut_object cut =
    codes "{\"records\":" ++ decimal cut.whole ++ codes ",\"result\":\"cut\",\"source\":\"" ++ tap_word cut.tap ++ codes "\"}\n"
