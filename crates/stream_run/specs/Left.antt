-- What a run over streams answers, and what it leaves: by one list of events for all its outputs; it serves the contract of the run.
--     texts_of      the headers, the texts of what is taken in of some events, and the lines of cut captures
--     Leaves      what stands in the outputs, by the answer
--     AnswersSieved      a whole run, by what its texts of settings and changes mean
use Rattle.std.specs.Prelude.{◌≡◌, ◌⊎◌, ◌==◌, ◌+◌, List, [], ◌∷◌, ◌++◌, length, MatchBool, Result, Ok, Err}
use Rattle.pcap.specs.Source.{Stream}
use Rattle.timeline.specs.declared.event.Event.{Event}
use Rattle.timeline.specs.declared.timeline.Cut.{Cut}
use Rattle.overlay.specs.declared.settings.change.TimedChange.{TimedChange}
use Rattle.overlay_config.specs.Fault.{Meaning}
use Rattle.overlay.specs.Settings.{Settings}
use Rattle.endpoint_core.specs.Opened.{settings_told}
use Rattle.endpoint_core.specs.Step.{State, opened}
use Rattle.capture_run.specs.Fault.{of_changes, of_settings}
use Rattle.capture_run.specs.Outputs.{Outputs}
use Rattle.capture_run.specs.Writing.{empty_outputs, with_cuts}
use Rattle.capture_run.specs.declared.fault.RunFault.{RunFault}
use Rattle.capture_run.specs.declared.fault.RunFault.TheVariants as faults
use Rattle.stream_run.specs.Amidst.{StandsInEvent}
use Rattle.stream_run.specs.Sights.{state_among}
use Rattle.stream_run.specs.Stage.{AreWell, Drains, FailedAt, StandAt, StandBetween, no_texts}
use Rattle.stream_run.specs.Steps.{changes_of, most_events, texts_behind}
use Rattle.stream_run.specs.declared.fault.StreamFault.{StreamFault}
use Rattle.stream_run.specs.declared.fault.StreamFault.TheVariants as stream
use Rattle.segment_set.specs.Segments.{Segments}

-- ---- the texts

-- the headers, the texts of what is taken in of these events one after another, and the lines of these cut captures
abbrev pub texts_of : (List Event → List Event) → Segments → Settings → List TimedChange → List Event → List Cut → Outputs
texts_of taken segments s changes es cuts =
    with_cuts (texts_behind segments changes (opened (settings_told s)) (empty_outputs (length s.ports)) (taken es)) cuts

-- texts that stand, and those that come next: the headers; those of one event more, which stand in their order; or the
-- lines of the cut captures
abbrev pub AreNext : (List Event → List Event) → Segments → Settings → List TimedChange → Drains → Drains → Outputs → Outputs → Type 0
AreNext taken segments s changes old new texts next =
    ((texts ≡ no_texts (length s.ports)) × (next ≡ texts_of taken segments s changes [] []))
    ⊎ ((es : List Event) × (e : Event) × (texts ≡ texts_of taken segments s changes es [])
    × (next ≡ texts_of taken segments s changes (es ++ e ∷ []) [])
    × StandsInEvent (changes_of changes) old new (length (taken es) + 1)
    (state_among segments (changes_of changes) (opened (settings_told s)) (taken es)) texts e)
    ⊎ ((es : List Event) × (cuts : List Cut) × (texts ≡ texts_of taken segments s changes es [])
    × (next ≡ texts_of taken segments s changes es cuts))

-- ---- what it leaves

-- what a run reads and writes
pub record Ends : Type 0 where
  pub ports : List Stream
  pub underlay : Stream
  pub drains : Drains

-- the same, made of what a call is lent
abbrev pub ends : List Stream → Stream → Drains → Ends
ends ports underlay drains = record { ports = ports; underlay = underlay; drains = drains }

-- the texts of all events and of the cut captures; where a write failed, also a part of what came next; and else the
-- texts of whole events, with the headers or without them. Memory is refused before anything is read or written; or it is
-- numbers that are wanting, and then as many events stand as can be numbered
abbrev pub Leaves : (List Event → List Event) → Segments → Settings → List TimedChange → Ends → Ends
    → Result (Unit {0}) StreamFault → Type 0
Leaves taken segments s changes old new (Ok x) = (es : List Event) × (cuts : List Cut)
    × StandAt old.drains new.drains (texts_of taken segments s changes es cuts)
Leaves taken segments s changes old new (Err (stream.Write target)) =
    (texts : Outputs) × (next : Outputs) × AreNext taken segments s changes old.drains new.drains texts next
    × StandBetween old.drains new.drains texts next × FailedAt target old.drains new.drains
Leaves taken segments s changes old new (Err (stream.Run faults.OutOfMemory)) =
    (new ≡ old) ⊎ ((es : List Event) × (length es ≡ most_events) × StandAt old.drains new.drains (texts_of taken segments s changes es []))
Leaves taken segments s changes old new (Err fault) =
    StandAt old.drains new.drains (no_texts (length s.ports))
    ⊎ ((es : List Event) × StandAt old.drains new.drains (texts_of taken segments s changes es []))

-- an output failed, or none
abbrev pub WritesWith : Drains → Drains → Result (Unit {0}) StreamFault → Type 0
WritesWith old new (Err (stream.Write target)) = FailedAt target old new
WritesWith old new result = AreWell old new

-- ---- a whole run

-- it is refused by this fault, or memory was; nothing was read or written
abbrev pub Refuses : RunFault → Ends → Ends → Result (Unit {0}) StreamFault → Type 0
Refuses fault old new result = ((result ≡ Err (stream.Run fault)) ⊎ (result ≡ Err (stream.Run faults.OutOfMemory))) × (new ≡ old)

-- by what the texts of settings and changes mean: the settings' fault first, then the changes', then the number of captures
abbrev pub AnswersSieved : (List Event → List Event) → Segments → Meaning Settings → Meaning (List TimedChange) → Ends → Ends
    → Result (Unit {0}) StreamFault → Type 0
AnswersSieved taken segments (Err fault) c old new result = Refuses (of_settings fault) old new result
AnswersSieved taken segments (Ok s) (Err fault) old new result = Refuses (of_changes fault) old new result
AnswersSieved taken segments (Ok s) (Ok changes) old new result =
    MatchBool (length old.ports == length s.ports) (Leaves taken segments s changes old new result)
    (Refuses faults.PortCount old new result)

-- ---- where it begins

-- an endpoint that was opened just now with these settings, on as many captures as there are ports
pub record IsOpenedWith (s : Settings) (ports : List Stream) (state : State) : Type 0 where
  pub state_is : state ≡ opened (settings_told s)
  pub many : length ports ≡ length s.ports

-- with some settings
abbrev pub CanBegin : List Stream → State → Type 0
CanBegin ports state = (s : Settings) × IsOpenedWith s ports state
