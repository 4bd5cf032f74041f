-- How outputs grow, event by event. It states no standard. A law says that they become those of the whole run.
use Rattle.std.specs.Prelude.{ℕ, ◌+◌, ◌-◌, ◌==◌, if◌then◌else◌, List, [], ◌∷◌, ◌++◌, map, replicate, slice_set, slice_index_or, Option}
use Rattle.std.specs.Option.{option_map_or}
use Rattle.filter_db.specs.declared.place.Place.{Place}
use Rattle.filter_db.specs.declared.place.Place.TheVariants.{Local, Remote}
use Rattle.pcap.specs.Written.{written_header, written_record}
use Rattle.timeline.specs.declared.event.Event.{Event as Happens}
use Rattle.overlay.specs.declared.settings.change.Change.{Change}
use Rattle.endpoint_core.specs.Decision.{Sent}
use Rattle.endpoint_core.specs.Step.{Answer, Decided, Replied, State, answer, after}
use Rattle.timeline.specs.declared.timeline.Cut.{Cut}
use Rattle.decision_lines.specs.Lines.{answer_text, cut_line, line}
use Rattle.capture_run.specs.Sendings.{Sending, sending_of, record_of}
use Rattle.capture_run.specs.Outputs.{Outputs, event_of, named_by}
use Rattle.capture_run.specs.declared.outputs.Outputs.{Outputs as Texts}

-- the texts that outputs are
abbrev pub seen : Texts → Outputs
seen texts = record { ports = map (λ v. v.items) texts.ports.items; underlay = texts.underlay.items; decisions = texts.decisions.items }

-- of a run of no events
abbrev pub empty_outputs : ℕ → Outputs
empty_outputs ports = record { ports = replicate ports written_header; underlay = written_header; decisions = [] }

-- a text put behind that of a port, where there is one of this number
abbrev pub put_at : ℕ → List ℕ → List (List ℕ) → List (List ℕ)
put_at port text texts = if port == 0 then texts else slice_set texts (port - 1) (slice_index_or texts (port - 1) [] ++ text)

-- the outputs with a record more at a place
abbrev pub with_record : Outputs → Place → List ℕ → Outputs
with_record o (Local port) text = record o { ports = put_at port text o.ports }
with_record o (Remote kind addr) text = record o { underlay = o.underlay ++ text }

-- the same of what was sent
abbrev pub with_sending : Outputs → Sending → Outputs
with_sending o s = with_record o s.place (written_record (record_of s))

-- the same of an outcome
abbrev pub with_sent : ℕ → Outputs → Sent → Outputs
with_sent moment o outcome = option_map_or (with_sending o) (sending_of moment outcome) o

-- of all outcomes, one after another
abbrev pub with_all_sent : ℕ → Outputs → List Sent → Outputs
with_all_sent moment o [] = o
with_all_sent moment o (outcome ∷ outcomes) = with_all_sent moment (with_sent moment o outcome) outcomes

-- of an answer
abbrev pub with_answer : ℕ → Outputs → Answer → Outputs
with_answer moment o (Decided decision) = with_all_sent moment o decision.outcomes
with_answer moment o (Replied fault) = o

-- the outputs with a decision line more
abbrev pub with_line : Outputs → List ℕ → Outputs
with_line o text = record o { decisions = o.decisions ++ text }

-- after an event of this number, which names this segment
abbrev pub with_input : ℕ → Option ℕ → Outputs → Happens → Answer → Outputs
with_input number named o e answer = with_line (with_answer e.moment o answer) (line number e (answer_text named answer))

-- after an event of this number
abbrev pub with_event : List Change → ℕ → Outputs → Happens → Answer → Outputs
with_event changes number o e answer = with_input number (named_by changes e.happening) o e answer

-- after events behind so many others, which come to an endpoint in this state
abbrev pub with_events : List Change → ℕ → State → Outputs → List Happens → Outputs
with_events changes count s o [] = o
with_events changes count s o (e ∷ es) =
    with_events changes (count + 1) (after s (event_of changes e)) (with_event changes (count + 1) o e (answer s (event_of changes e))) es

-- the lines of the captures that are cut, behind all others
abbrev pub with_cuts : Outputs → List Cut → Outputs
with_cuts o [] = o
with_cuts o (cut ∷ cuts) = with_cuts (with_line o (cut_line cut)) cuts
