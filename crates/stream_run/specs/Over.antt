-- What a run over streams answers, and what it leaves in its outputs, by the octets of its captures; it serves the contract of the run.
--     whole_records      the events of all whole records, in order, and the captures that are cut
--     IsRunOver      the answer of a run, and the texts that its outputs hold then
use Rattle.std.specs.Prelude.{◌≡◌, ◌⊎◌, ◌≤◌, ⊤, ℕ, ◌+◌, List, [], ◌∷◌, ◌++◌, length, map, take, Vec, Some, Result, Ok, Err}
use Rattle.std.specs.declared.alloc.Global.{Global}
use Rattle.pcap.specs.declared.text.record.RecordFault.{RecordFault}
use Rattle.pcap.specs.Source.{Stream}
use Rattle.overlay_config.specs.Fault.{Meaning}
use Rattle.overlay_config.specs.Settings.{Settings}
use Rattle.overlay.specs.declared.settings.change.TimedChange.{TimedChange}
use Rattle.endpoint_core.specs.Opened.{settings_told}
use Rattle.endpoint_core.specs.Step.{opened}
use Rattle.timeline.specs.Events.{all_events}
use Rattle.timeline.specs.Faults.{faults_of, opening_faults}
use Rattle.timeline.specs.Inputs.{inputs, opened_captures}
use Rattle.timeline.specs.Order.{merged}
use Rattle.timeline.specs.Timeline.{Timeline, cuts_of}
use Rattle.timeline.specs.declared.event.Event.{Event}
use Rattle.timeline.specs.declared.source.Tap.{Tap}
use Rattle.capture_run.specs.Outputs.{Outputs}
use Rattle.capture_run.specs.Run.{run}
use Rattle.capture_run.specs.declared.fault.RunFault.TheVariants as faults
use Rattle.stream_run.specs.Amidst.{StandsInEvent}
use Rattle.stream_run.specs.Coming.{EndBefore}
use Rattle.stream_run.specs.Sights.{state_among}
use Rattle.stream_run.specs.Sieved.{all_taken}
use Rattle.stream_run.specs.Stage.{ComesBeforeCuts, ComesNext, Drains, Events, Everything, Nothing}
use Rattle.stream_run.specs.Stage.{Stage, StandAt, StandBetween, events_at, no_texts, stage_texts}
use Rattle.stream_run.specs.Steps.{AreRead, IsFaultyAt, StopInFront, changes_of, most_events}
use Rattle.stream_run.specs.declared.fault.StreamFault.{StreamFault}
use Rattle.stream_run.specs.declared.fault.StreamFault.TheVariants as stream
use Rattle.stream_run.specs.declared.turn.Turn.{Turn}
use Rattle.capture_run.specs.Among.{run_among}
use Rattle.segment_set.specs.Segments.{Segments, All}

-- ---- the captures

-- the octets of some captures
abbrev pub texts_octets : List (Vec ℕ Global) → List (List ℕ)
texts_octets texts = map (λ (v : Vec ℕ Global). v.items) texts

-- all inputs tell their octets
abbrev pub Tells : List Stream → Stream → List (Vec ℕ Global) → List ℕ → Type 0
Tells ports underlay texts text = (map (λ (s : Stream). s.supply.rest) ports
    ≡ map (λ (octets : List ℕ). Some octets) (texts_octets texts)) × (underlay.supply.rest ≡ Some text)

-- the events of the changes and of the whole records of all captures, those in front of each one's first fault, in order;
-- and the captures that are cut
abbrev pub whole_records : List TimedChange → List (Vec ℕ Global) → List ℕ → Timeline
whole_records changes texts text =
    let captures = opened_captures (inputs texts text) in
    record { events = merged (all_events (map (λ c. c.at) changes) captures); cuts = cuts_of captures }

-- all of them can be opened
abbrev pub CanBeOpened : List (Vec ℕ Global) → List ℕ → Type 0
CanBeOpened texts text = opening_faults (inputs texts text) ≡ []

-- all of them can be read to their ends
abbrev pub AreFaultless : List (Vec ℕ Global) → List ℕ → Type 0
AreFaultless texts text = faults_of (inputs texts text) ≡ []

-- what a stage asks of them: no header stands where one can't be opened, and no line of a cut capture where one can't be
-- read to its end
abbrev pub AllowStage : List (Vec ℕ Global) → List ℕ → Stage → Type 0
AllowStage texts text Nothing = ⊤
AllowStage texts text (Events k) = CanBeOpened texts text
AllowStage texts text Everything = CanBeOpened texts text × AreFaultless texts text

-- ---- the texts

-- those of a stage, of what is taken in of its events
abbrev pub texts_at : (List Event → List Event) → Segments → Settings → List TimedChange → List (Vec ℕ Global) → List ℕ → Stage → Outputs
texts_at taken segments s changes texts text stage =
    stage_texts taken segments (settings_told s) (changes_of changes) (length texts) (whole_records changes texts text) stage

-- the outputs hold the texts of whole events, with the headers or without them; where a capture has a fault, of none
-- behind its last whole record
pub record StandsSomewhere (taken : List Event → List Event) (segments : Segments) (s : Settings) (changes : List TimedChange)
    (texts : List (Vec ℕ Global)) (text : List ℕ) (old new : Drains) : Type 0 where
  pub stage : Stage
  pub amidst : ComesBeforeCuts (whole_records changes texts text) stage
  pub captures : AllowStage texts text stage
  pub in_front : StopInFront (texts_octets texts) text (events_at (whole_records changes texts text) stage)
  pub stands : StandAt old new (texts_at taken segments s changes texts text stage)

-- memory is refused only where nothing was written; or it is numbers that are wanting, and then as many events stand as can
-- be numbered
abbrev pub LacksMemory : Drains → Drains → Stage → Type 0
LacksMemory old new Nothing = new ≡ old
LacksMemory old new (Events k) = k ≡ most_events
LacksMemory old new Everything = ⊥

-- or also a part of what comes next, so that all captures can be opened; lines of cut captures only where all were read to
-- their ends
pub record StandsAmong (taken : List Event → List Event) (segments : Segments) (s : Settings) (changes : List TimedChange)
    (texts : List (Vec ℕ Global)) (text : List ℕ) (old new : Drains) : Type 0 where
  pub stage : Stage
  pub next : Stage
  pub comes : ComesNext (whole_records changes texts text) stage next
  pub captures : AllowStage texts text next
  pub in_front : StopInFront (texts_octets texts) text (events_at (whole_records changes texts text) next)
  pub stands : StandBetween old new (texts_at taken segments s changes texts text stage) (texts_at taken segments s changes texts text next)
  -- where an event comes next, the records of its first outlets, and the line behind them all
  pub order : (es rest : List Event) (e : Event) → (whole_records changes texts text).events ≡ es ++ e ∷ rest → stage ≡ Events (length es)
      → StandsInEvent (changes_of changes) old new (length (taken es) + 1)
      (state_among segments (changes_of changes) (opened (settings_told s)) (taken es))
      (texts_at taken segments s changes texts text stage) e

-- a record has this fault, and the outputs hold the texts of all events up to the record before it, and no more; all
-- captures can be opened, and no other has a fault sooner
pub record StandsBefore (taken : List Event → List Event) (segments : Segments) (place : Tap) (n : ℕ) (fault : RecordFault)
    (s : Settings) (changes : List TimedChange) (texts : List (Vec ℕ Global)) (text : List ℕ) (old new : Drains) : Type 0 where
  pub k : ℕ
  pub most : k ≤ length (whole_records changes texts text).events
  pub openings : CanBeOpened texts text
  pub faulty : IsFaultyAt (texts_octets texts) text place n fault
  pub in_front : StopInFront (texts_octets texts) text (take k (whole_records changes texts text).events)
  pub before : ((k ≡ 0) × (n ≡ 1)) ⊎ EndBefore place n (take k (whole_records changes texts text).events)
  pub stands : StandAt old new (texts_at taken segments s changes texts text (Events k))

-- ---- the answer

-- with these settings and changes: Ok comes where the run of all events tells outputs, and then those of what is taken in stand
abbrev pub LeavesSieved : (List Event → List Event) → Segments → Settings → List TimedChange → List (Vec ℕ Global) → List ℕ
    → Drains → Drains → Result (Unit {0}) StreamFault → Type 0
LeavesSieved taken segments s changes texts text old new (Ok x) =
    (run_among segments (Ok s) (Ok changes) texts text ≡ Ok (texts_at all_taken segments s changes texts text Everything))
    × StandAt old new (texts_at taken segments s changes texts text Everything)
LeavesSieved taken segments s changes texts text old new (Err (stream.Run (faults.Record place n fault))) =
    StandsBefore taken segments place n fault s changes texts text old new
LeavesSieved taken segments s changes texts text old new (Err (stream.Run faults.OutOfMemory)) =
    (at : StandsSomewhere taken segments s changes texts text old new) × LacksMemory old new at.stage
LeavesSieved taken segments s changes texts text old new (Err (stream.Run fault)) =
    (run (Ok s) (Ok changes) texts text ≡ Err fault) × StandAt old new (no_texts (length texts))
LeavesSieved taken segments s changes texts text old new (Err (stream.Read place)) =
    StandsSomewhere taken segments s changes texts text old new
LeavesSieved taken segments s changes texts text old new (Err (stream.Write target)) =
    StandsAmong taken segments s changes texts text old new

-- where each event is taken in, the outputs that the run tells stand
abbrev pub LeavesOver : Segments → Settings → List TimedChange → List (Vec ℕ Global) → List ℕ → Drains → Drains
    → Result (Unit {0}) StreamFault → Type 0
LeavesOver segments s changes texts text old new (Ok x) = (found : Outputs)
    × (run_among segments (Ok s) (Ok changes) texts text ≡ Ok found) × StandAt old new found
LeavesOver segments s changes texts text old new (Err fault) = LeavesSieved all_taken segments s changes texts text old new (Err fault)

-- without them: why, unless memory was refused
abbrev pub RefusesOver : Meaning Settings → Meaning (List TimedChange) → List (Vec ℕ Global) → List ℕ → Drains → Drains
    → Result (Unit {0}) StreamFault → Type 0
RefusesOver s c texts text old new (Err (stream.Run faults.OutOfMemory)) = StandAt old new (no_texts (length texts))
RefusesOver s c texts text old new (Err (stream.Run fault)) = (run s c texts text ≡ Err fault) × StandAt old new (no_texts (length texts))
RefusesOver s c texts text old new result = ⊥

-- by what the texts of the settings and of the changes mean
abbrev pub IsRunOverSieved : (List Event → List Event) → Segments → Meaning Settings → Meaning (List TimedChange)
    → List (Vec ℕ Global) → List ℕ → Drains → Drains → Result (Unit {0}) StreamFault → Type 0
IsRunOverSieved taken segments (Ok s) (Ok changes) texts text old new result =
    LeavesSieved taken segments s changes texts text old new result
IsRunOverSieved taken segments (Ok s) (Err fault) texts text old new result = RefusesOver (Ok s) (Err fault) texts text old new result
IsRunOverSieved taken segments (Err fault) c texts text old new result = RefusesOver (Err fault) c texts text old new result

-- the same where each event is taken in
abbrev pub IsRunOverAmong : Segments → Meaning Settings → Meaning (List TimedChange) → List (Vec ℕ Global) → List ℕ → Drains
    → Drains → Result (Unit {0}) StreamFault → Type 0
IsRunOverAmong segments (Ok s) (Ok changes) texts text old new result = LeavesOver segments s changes texts text old new result
IsRunOverAmong segments (Ok s) (Err fault) texts text old new result = RefusesOver (Ok s) (Err fault) texts text old new result
IsRunOverAmong segments (Err fault) c texts text old new result = RefusesOver (Err fault) c texts text old new result

-- the same of the whole run
abbrev pub IsRunOver : Meaning Settings → Meaning (List TimedChange) → List (Vec ℕ Global) → List ℕ → Drains → Drains
    → Result (Unit {0}) StreamFault → Type 0
IsRunOver s c texts text old new result = IsRunOverAmong All s c texts text old new result

-- a run that stops at no fault leaves just what comes out of the whole run
abbrev pub IsWholeRun : Meaning Settings → Meaning (List TimedChange) → List (Vec ℕ Global) → List ℕ → Drains → Drains
    → Result (Unit {0}) StreamFault → Type 0
IsWholeRun s c texts text old new (Ok x) = (found : Outputs) × (run s c texts text ≡ Ok found) × StandAt old new found
IsWholeRun s c texts text old new (Err fault) = ⊤

-- a law: where each event is taken in, a run of some segments leaves what a part of the run does
abbrev pub LeavePart : Type 0
LeavePart = (segments : Segments) (s : Meaning Settings) (c : Meaning (List TimedChange)) (texts : List (Vec ℕ Global)) (text : List ℕ)
    (old new : Drains) (result : Result (Unit {0}) StreamFault)
    → IsRunOverSieved all_taken segments s c texts text old new result → IsRunOverAmong segments s c texts text old new result

-- a law: where they are all, it leaves what the whole run does
abbrev pub LeaveWhole : Type 0
LeaveWhole = (s : Meaning Settings) (c : Meaning (List TimedChange)) (texts : List (Vec ℕ Global)) (text : List ℕ)
    (old new : Drains) (result : Result (Unit {0}) StreamFault) → IsRunOverSieved all_taken All s c texts text old new result
    → IsRunOver s c texts text old new result × IsWholeRun s c texts text old new result

-- ---- the begin

module _ {T : Type 0} where
  -- the first record of each capture is fetched, up to the first that has a fault
  abbrev pub BeginsIn : List (List ℕ) → List ℕ → List Turn → List Stream → Stream → Result T StreamFault → Type 0
  BeginsIn texts text turns ports underlay (Ok x) = AreRead texts text turns ports underlay
  BeginsIn texts text turns ports underlay (Err (stream.Run (faults.Record place n fault))) = IsFaultyAt texts text place n fault × (n ≡ 1)
  BeginsIn texts text turns ports underlay (Err (stream.Run fault)) = ⊥
  BeginsIn texts text turns ports underlay (Err (stream.Read place)) = ⊤
  BeginsIn texts text turns ports underlay (Err (stream.Write target)) = ⊥
