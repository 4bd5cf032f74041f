-- What a run over streams shows to whoever looks on; it serves the contract of the run.
--     IsWatchedTake, IsSieved, IsWatchedStep, IsPut, IsWatchedRun, IsSievedRun      each event that is taken in is seen,
-- taken, and its answer heard, where it is told
--     IsShownSieved      a whole run: the events of which the outputs hold texts, and the end
--     IsWatchedOverSieved      the same by the octets of its captures: all events and the end, or the first events
use Rattle.std.specs.Prelude.{◌≡◌, ◌≢◌, ◌⊎◌, ◌==◌, ⊤, ℕ, ◌+◌, Bool, true, List, [], ◌∷◌, ◌++◌}
use Rattle.std.specs.Prelude.{length, MatchBool, OnErr, slice_index_or, Vec, Result, Ok, Err}
use Rattle.std.specs.List.{FoldsTo}
use Rattle.std.specs.declared.alloc.Global.{Global}
use Rattle.pcap.specs.Source.{Stream}
use Rattle.overlay_config.specs.Fault.{Meaning}
use Rattle.overlay_config.specs.Settings.{Settings}
use Rattle.overlay.specs.declared.settings.change.TimedChange.{TimedChange}
use Rattle.endpoint_core.specs.Opened.{settings_told}
use Rattle.endpoint_core.specs.Settings.{Settings as InForce}
use Rattle.timeline.specs.declared.event.Event.{Event}
use Rattle.timeline.specs.declared.timeline.Cut.{Cut}
use Rattle.timeline.specs.declared.source.Tap.{Tap}
use Rattle.endpoint_core.specs.Step.{State, answer, opened}
use Rattle.capture_run.specs.Among.{with_events_among}
use Rattle.capture_run.specs.Outputs.{Outputs, event_of, named_by}
use Rattle.capture_run.specs.declared.fault.RunFault.TheVariants as faults
use Rattle.stream_run.specs.Amidst.{PutsInOrder}
use Rattle.stream_run.specs.Left.{texts_of}
use Rattle.stream_run.specs.Over.{LacksMemory, StandsAmong, StandsBefore, StandsSomewhere, whole_records}
use Rattle.stream_run.specs.Sights.{Sight, sight_among, sights, state_among}
use Rattle.stream_run.specs.Sieved.{GoesBy, asked, kept}
use Rattle.stream_run.specs.Stage.{Drains, Events, Lead, Stage, StandAt, StandBetween, events_at, no_texts}
use Rattle.stream_run.specs.Steps.{IsAt, IsNextEvent, IsRunOn, IsStep, IsTaken, Run, changes_of}
use Rattle.stream_run.specs.Fault.{stopped}
use Rattle.stream_run.specs.declared.fault.Halt.{Halt}
use Rattle.stream_run.specs.declared.fault.StreamFault.{StreamFault}
use Rattle.stream_run.specs.declared.fault.StreamFault.TheVariants as stream
use Rattle.stream_run.specs.declared.fault.Target.{Target}
use Rattle.stream_run.specs.declared.turn.First.{First}
use Rattle.stream_run.specs.declared.turn.Turn.{Turn}
use Rattle.segment_set.specs.Segments.{Segments}

-- how an endpoint stands behind some events
abbrev pub state_behind : Segments → List TimedChange → State → List Event → State
state_behind segments changes s es = state_among segments (changes_of changes) s es

-- ---- the steps

module _ (segments : Segments) {T : Type 0} (sees : T → Sight → T → Type 0) where
  -- the event was taken; it was seen before, and where it is told, its answer heard
  pub record IsWatchedTake (changes : List TimedChange) (e : Event) (number : ℕ)
      (old new : State) (before behind : Drains) (old_watch new_watch : T) (result : Result (Unit {0}) Target) : Type 0 where
    pub taken : IsTaken segments changes e number old new before behind result
    pub seen : sees old_watch (sight_among segments (changes_of changes) old number e) new_watch

module _ (segments : Segments) {S T : Type 0} (taken : S → List Event → List Event) (goes : S → Event → S → Type 0)
    (sees : T → Sight → T → Type 0) where
  -- the sieve was asked about the next event, and takes it in, and then it was numbered, seen, and taken; or leaves it out, and
  -- then nothing was
  pub record IsSieved (changes : List TimedChange) (ports : List Stream) (underlay : Stream)
      (index done moment number new_number : ℕ) (old new : State) (before behind : Drains) (old_sieve new_sieve : S)
      (old_watch new_watch : T)
      (result : Result (Unit {0}) Target) : Type 0 where
    pub e : Event
    pub takes : Bool
    pub next : IsNextEvent ports underlay index done moment e
    pub sieved : (es : List Event) → taken old_sieve (e ∷ es) ≡ kept takes e ++ taken new_sieve es
    pub went : goes old_sieve e new_sieve
    pub numbered : new_number ≡ number + length (kept takes e)
    pub state : new ≡ state_among segments (changes_of changes) old (kept takes e)
    pub failed : OnErr result (takes ≡ true)
    pub outputs : (start : Drains) (o : Outputs) → StandAt start before o
        → Lead start behind o (with_events_among segments (changes_of changes) number old o (kept takes e)) result
    pub order : (start : Drains) (o : Outputs) → StandAt start before o
        → PutsInOrder start behind (number + 1) (named_by (changes_of changes) e.happening) o e
        (answer old (event_of (changes_of changes) e)) result
    pub seen : FoldsTo sees old_watch (sights segments (changes_of changes) old number (kept takes e)) new_watch

  -- the same, and the next one of its source was asked for
  pub record IsWatchedStep (changes : List TimedChange) (old new : Run) (first : First) (old_sieve new_sieve : S)
      (old_watch new_watch : T) (result : Result (Unit {0}) StreamFault) : Type 0 where
    pub step : IsStep segments changes old new first result
    pub sieved : (es : List Event) → taken old_sieve (step.e ∷ es) ≡ kept step.takes step.e ++ taken new_sieve es
    pub went : goes old_sieve step.e new_sieve
    pub seen : FoldsTo sees old_watch (sights segments (changes_of changes) old.state old.number (kept step.takes step.e)) new_watch

  -- the same, where the answer is short: a halt says why the event stopped the run, and not where. The run's fault is what the
  -- halt means at the capture that the event came from, and at the record behind the event's; for a change, which comes from
  -- no capture, that holds of any
  abbrev pub IsPut : List TimedChange → Run → Run → First → S → S → T → T → Result (Unit {0}) Halt → Type 0
  IsPut changes old new first old_sieve new_sieve old_watch new_watch (Ok done) =
      IsWatchedStep changes old new first old_sieve new_sieve old_watch new_watch (Ok done)
  IsPut changes old new first old_sieve new_sieve old_watch new_watch (Err h) =
      (tap : Tap) (t : Turn) → (first.index ≢ 0 → IsAt (length old.ports) first.index tap) →
      IsWatchedStep changes old new first old_sieve new_sieve old_watch new_watch
      (Err (stopped tap ((slice_index_or old.turns first.index t).done + 1 + 1) h))

module _ (taken : List Event → List Event) (segments : Segments) {T : Type 0} (sees : T → Sight → T → Type 0) where
  -- some events came, one after another, and each that was taken in was seen before it was taken; where a write failed, so was
  -- the event of which a part was written
  pub record IsWatchedRun (changes : List TimedChange) (old new : Run) (old_watch new_watch : T)
      (result : Result (Unit {0}) StreamFault) : Type 0 where
    pub run : IsRunOn taken segments changes old new result
    pub seen : FoldsTo sees old_watch (sights segments (changes_of changes) old.state 0 (taken (run.es ++ run.more))) new_watch
    pub state : new.state ≡ state_behind segments changes old.state (taken (run.es ++ run.more))

module _ (segments : Segments) {S T : Type 0} (taken : S → List Event → List Event) (goes : S → Event → S → Type 0)
    (sees : T → Sight → T → Type 0) where
  -- the same, and the sieve was asked about each event
  pub record IsSievedRun (changes : List TimedChange) (old new : Run) (old_sieve new_sieve : S) (old_watch new_watch : T)
      (result : Result (Unit {0}) StreamFault) : Type 0 where
    pub watched : IsWatchedRun (taken old_sieve) segments sees changes old new old_watch new_watch result
    pub went : FoldsTo goes old_sieve (watched.run.es ++ watched.run.more) new_sieve

-- ---- a whole run

-- the sights of what is taken in of these events, from the begin on
abbrev pub sights_of : (List Event → List Event) → Segments → Settings → List TimedChange → List Event → List Sight
sights_of taken segments s changes es = sights segments (changes_of changes) (opened (settings_told s)) 0 (taken es)

-- how the endpoint stands behind them
abbrev pub state_of_run : (List Event → List Event) → Segments → Settings → List TimedChange → List Event → State
state_of_run taken segments s changes es = state_behind segments changes (opened (settings_told s)) (taken es)

-- texts, and those that come next, when these events were seen: the headers, before any; the last of them; or the lines of
-- the cut captures, behind all
abbrev pub AreNextSeen : (List Event → List Event) → Segments → Settings → List TimedChange → List Event → Outputs → Outputs → Type 0
AreNextSeen taken segments s changes es texts next =
    ((es ≡ []) × (texts ≡ no_texts (length s.ports)) × (next ≡ texts_of taken segments s changes [] []))
    ⊎ ((others : List Event) × (e : Event) × (es ≡ others ++ e ∷ []) × (texts ≡ texts_of taken segments s changes others [])
    × (next ≡ texts_of taken segments s changes es []))
    ⊎ ((cuts : List Cut) × (texts ≡ texts_of taken segments s changes es []) × (next ≡ texts_of taken segments s changes es cuts))

module _ (taken : List Event → List Event) (segments : Segments) {T : Type 0} (sees : T → Sight → T → Type 0)
    (ends : T → State → T → Type 0) where
  -- with these settings and changes: the events were seen whose texts stand in the outputs, and where a write failed the
  -- one of which a part does; the end where they hold everything
  abbrev pub Shows : Settings → List TimedChange → Drains → Drains → T → T → Result (Unit {0}) StreamFault → Type 0
  Shows s changes old new old_watch new_watch (Ok x) =
      (es : List Event) × (cuts : List Cut) × (last : T) × StandAt old new (texts_of taken segments s changes es cuts)
      × FoldsTo sees old_watch (sights_of taken segments s changes es) last
      × ends last (state_of_run taken segments s changes es) new_watch
  Shows s changes old new old_watch new_watch (Err (stream.Write target)) =
      (es : List Event) × (texts : Outputs) × (next : Outputs) × AreNextSeen taken segments s changes es texts next
      × StandBetween old new texts next × FoldsTo sees old_watch (sights_of taken segments s changes es) new_watch
  Shows s changes old new old_watch new_watch (Err fault) =
      (StandAt old new (no_texts (length s.ports)) × (new_watch ≡ old_watch))
      ⊎ ((es : List Event) × StandAt old new (texts_of taken segments s changes es [])
      × FoldsTo sees old_watch (sights_of taken segments s changes es) new_watch)

  -- by what the texts of the settings and of the changes mean, and by the number of captures: where they are refused,
  -- nothing was seen
  abbrev pub IsShownSieved : Meaning Settings → Meaning (List TimedChange) → List Stream → Drains → Drains → T → T
      → Result (Unit {0}) StreamFault → Type 0
  IsShownSieved (Ok s) (Ok changes) ports old new old_watch new_watch result =
      MatchBool (length ports == length s.ports) (Shows s changes old new old_watch new_watch result) (new_watch ≡ old_watch)
  IsShownSieved (Ok s) (Err fault) ports old new old_watch new_watch result = new_watch ≡ old_watch
  IsShownSieved (Err fault) c ports old new old_watch new_watch result = new_watch ≡ old_watch

-- ---- the same by the octets of the captures

-- the sights of the events of a stage
abbrev pub sights_at : (List Event → List Event) → Segments → Settings → List TimedChange → List (Vec ℕ Global) → List ℕ → Stage
    → List Sight
sights_at taken segments s changes texts text stage =
    sights_of taken segments s changes (events_at (whole_records changes texts text) stage)

module _ (taken : List Event → List Event) (segments : Segments) {T : Type 0} (sees : T → Sight → T → Type 0)
    (ends : T → State → T → Type 0) where
  -- with these settings and changes: all events were seen in order, and then the end; or the first of them, as many as
  -- the outputs hold texts of, and where a write failed also the one of which they hold a part; or nothing
  abbrev pub SeesOver : Settings → List TimedChange → List (Vec ℕ Global) → List ℕ → Drains → Drains → T → T
      → Result (Unit {0}) StreamFault → Type 0
  SeesOver s changes texts text old new old_watch new_watch (Ok x) =
      (last : T) × FoldsTo sees old_watch (sights_of taken segments s changes (whole_records changes texts text).events) last
      × ends last (state_of_run taken segments s changes (whole_records changes texts text).events) new_watch
  SeesOver s changes texts text old new old_watch new_watch (Err (stream.Run (faults.Record place n fault))) =
      (at : StandsBefore taken segments place n fault s changes texts text old new)
      × FoldsTo sees old_watch (sights_at taken segments s changes texts text (Events at.k)) new_watch
  SeesOver s changes texts text old new old_watch new_watch (Err (stream.Run faults.OutOfMemory)) =
      (at : StandsSomewhere taken segments s changes texts text old new) × LacksMemory old new at.stage
      × FoldsTo sees old_watch (sights_at taken segments s changes texts text at.stage) new_watch
  SeesOver s changes texts text old new old_watch new_watch (Err (stream.Run fault)) = new_watch ≡ old_watch
  SeesOver s changes texts text old new old_watch new_watch (Err (stream.Read place)) =
      (at : StandsSomewhere taken segments s changes texts text old new)
      × FoldsTo sees old_watch (sights_at taken segments s changes texts text at.stage) new_watch
  SeesOver s changes texts text old new old_watch new_watch (Err (stream.Write target)) =
      (at : StandsAmong taken segments s changes texts text old new)
      × FoldsTo sees old_watch (sights_at taken segments s changes texts text at.next) new_watch

  -- by what the texts of the settings and of the changes mean: without them nothing was seen
  abbrev pub IsWatchedOverSieved : Meaning Settings → Meaning (List TimedChange) → List (Vec ℕ Global) → List ℕ → Drains
      → Drains → T → T → Result (Unit {0}) StreamFault → Type 0
  IsWatchedOverSieved (Ok s) (Ok changes) texts text old new old_watch new_watch result =
      SeesOver s changes texts text old new old_watch new_watch result
  IsWatchedOverSieved (Ok s) (Err fault) texts text old new old_watch new_watch result = new_watch ≡ old_watch
  IsWatchedOverSieved (Err fault) c texts text old new old_watch new_watch result = new_watch ≡ old_watch

module _ {S : Type 0} (goes : S → InForce → List TimedChange → Event → S → Type 0) where
  -- a sieve at the end of a run: it was asked about each event, in order, at the settings in force before it; where the run stops
  -- at a fault, nothing is said of it
  abbrev pub GoesOver : Meaning Settings → Meaning (List TimedChange) → List (Vec ℕ Global) → List ℕ → S → S
      → Result (Unit {0}) StreamFault → Type 0
  GoesOver (Ok s) (Ok changes) texts text old new (Ok x) =
      (last : InForce)
      × FoldsTo (GoesBy goes changes) (asked old (settings_told s)) (whole_records changes texts text).events (asked new last)
  GoesOver s c texts text old new result = ⊤
