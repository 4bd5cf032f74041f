-- The steps of a run. It states no standard.
--     Run      what a run reads, writes and keeps
--     AreReady      the next event of each source is known
--     AreRead      the same, by the octets of the captures
--     IsStep      one event, and the fetch behind it
--     IsRunOn      many of them: by the octets, the first of those that were to come
use Rattle.std.specs.Prelude.{◌≡◌, ◌≢◌, Bool, true, if◌then◌else◌, ◌<◌, ◌≤◌, ⊤, ℕ, ◌+◌, List, []}
use Rattle.std.specs.Prelude.{◌∷◌, ◌++◌, length, map, slice_index_or, slice_get, Option, Some, None}
use Rattle.std.specs.Prelude.{option_map, Result, Ok, Err, OnOk, IsSome, slice_set, ◌-◌, ◌^◌, ◌⊎◌}
use Rattle.pcap.specs.Record.{Record, last_moment}
use Rattle.pcap.specs.declared.text.record.RecordFault.{RecordFault}
use Rattle.pcap.specs.Source.{Stream, lent}
use Rattle.pcap.specs.declared.stream.fault.SourceFault.{SourceFault}
use Rattle.overlay.specs.declared.settings.change.Change.{Change}
use Rattle.overlay.specs.declared.settings.change.TimedChange.{TimedChange}
use Rattle.timeline.specs.Order.{IsRising}
use Rattle.timeline.specs.declared.event.Event.{Event}
use Rattle.timeline.specs.declared.event.Happening.TheVariants as happenings
use Rattle.timeline.specs.declared.source.Tap.{Tap}
use Rattle.timeline.specs.declared.source.Tap.TheVariants as taps
use Rattle.endpoint_core.specs.Among.{after_among}
use Rattle.endpoint_core.specs.Step.{State, answer}
use Rattle.capture_run.specs.Outputs.{Outputs, event_of, named_by}
use Rattle.capture_run.specs.Among.{with_event_among, with_events_among}
use Rattle.capture_run.specs.declared.fault.RunFault.TheVariants as faults
use Rattle.stream_run.specs.Amidst.{PutsInOrder, StandsInEvent, StepsInOrder}
use Rattle.stream_run.specs.Coming.{EndBefore, IsRecordBefore, NoneBehind, coming, records_among}
use Rattle.stream_run.specs.Fault.{fault_of}
use Rattle.stream_run.specs.Fetched.{IsFetch, IsMoment}
use Rattle.stream_run.specs.Sights.{state_among}
use Rattle.stream_run.specs.Sieved.{kept}
use Rattle.stream_run.specs.Read.{IsFaulty, IsRead, ReadsWith}
use Rattle.stream_run.specs.Stage.{Drains, FailedAt, Lead, StandAt, StandBetween}
use Rattle.stream_run.specs.Turns.{IsNoSooner}
use Rattle.stream_run.specs.declared.fault.StreamFault.{StreamFault}
use Rattle.stream_run.specs.declared.fault.StreamFault.TheVariants as stream
use Rattle.stream_run.specs.declared.fault.Target.{Target}
use Rattle.stream_run.specs.declared.turn.First.{First}
use Rattle.stream_run.specs.declared.turn.Turn.{Turn}
use Rattle.segment_set.specs.Segments.{Segments}

-- ---- a run

-- so many events can be numbered: behind the last of them a run takes no more
abbrev pub most_events : ℕ
most_events = 2 ^ 64 - 3

-- a run as it stands between two events
pub record Run : Type 0 where
  pub ports : List Stream
  pub underlay : Stream
  -- of the changes, of the ports and of the underlay
  pub turns : List Turn
  pub state : State
  -- how many events were taken in
  pub number : ℕ
  pub drains : Drains

-- the same, made of what calls are lent
abbrev pub run_at : List Stream → Stream → List Turn → State → ℕ → Drains → Run
run_at ports underlay turns state number drains =
    record { ports = ports; underlay = underlay; turns = turns; state = state; number = number; drains = drains }

-- the changes of a run come one after another, and none is behind what a capture can tell
pub record AreTimely (changes : List TimedChange) : Type 0 where
  pub rising : (c : TimedChange) (k : ℕ) → k + 1 < length changes → (slice_index_or changes k c).at ≤ (slice_index_or changes (k + 1) c).at
  pub moments : (c : TimedChange) (k : ℕ) → k < length changes → (slice_index_or changes k c).at ≤ last_moment

-- the moment of a change by its number, from 0
abbrev pub moment_at : List TimedChange → ℕ → Option ℕ
moment_at changes k = option_map (λ (c : TimedChange). c.at) (slice_get changes k)

-- where the source with this index stands: the changes, the ports, the underlay
abbrev pub IsAt : ℕ → ℕ → Tap → Type 0
IsAt ports index (taps.Port port) = (index ≡ port) × (0 < port) × (port ≤ ports)
IsAt ports index taps.Underlay = index ≡ ports + 1

-- the source of a capture
abbrev pub source_at : List Stream → Stream → Tap → Stream
source_at ports underlay (taps.Port port) = slice_index_or ports (port - 1) underlay
source_at ports underlay taps.Underlay = underlay

-- where a next event is told, a record is lent
abbrev pub LendsWhere : Option ℕ → Stream → Type 0
LendsWhere None s = ⊤
LendsWhere (Some moment) s = IsSome (lent s.standing)

-- no next event of a source is before this moment
abbrev pub AreBehind : ℕ → List Turn → Type 0
AreBehind m turns = (t : Turn) (k : ℕ) → k < length turns → IsNoSooner m (slice_index_or turns k t).next

-- the turns tell the next events, none of which is before the last one that was taken in; of no source came more than so many
pub record AreReady (changes : List TimedChange) (count : ℕ) (r : Run) : Type 0 where
  pub timely : AreTimely changes
  pub size : length r.turns ≡ length r.ports + 2
  pub few : length r.ports ≤ 255
  pub known : length r.ports ≡ length r.state.bridges.settings.ports.ports
  pub behind : AreBehind r.state.moment r.turns
  pub moments : (t : Turn) (k : ℕ) → k < length r.turns → IsMoment (slice_index_or r.turns k t).next
  pub done : (t : Turn) (k : ℕ) → k < length r.turns → (slice_index_or r.turns k t).done ≤ count
  pub change : (t : Turn) → (slice_index_or r.turns 0 t).next ≡ moment_at changes (slice_index_or r.turns 0 t).done
  pub heads : (place : Tap) (index : ℕ) (t : Turn) → IsAt (length r.ports) index place
      → LendsWhere (slice_index_or r.turns index t).next (source_at r.ports r.underlay place)

-- ---- the captures

-- the octets of a capture
abbrev pub octets_at : List (List ℕ) → List ℕ → Tap → List ℕ
octets_at texts text (taps.Port port) = slice_index_or texts (port - 1) []
octets_at texts text taps.Underlay = text

-- the captures hold these octets: so many records of each were events, and the next one is lent
pub record AreRead (texts : List (List ℕ)) (text : List ℕ) (turns : List Turn) (ports : List Stream) (underlay : Stream) : Type 0 where
  pub many : length texts ≡ length ports
  pub each : (place : Tap) (index : ℕ) (t : Turn) → IsAt (length ports) index place
      → IsRead (octets_at texts text place) (slice_index_or turns index t) (source_at ports underlay place)

-- the record of this number of a capture has this fault
pub record IsFaultyAt (texts : List (List ℕ)) (text : List ℕ) (place : Tap) (number : ℕ) (fault : RecordFault) : Type 0 where
  pub index : ℕ
  pub at : IsAt (length texts) index place
  pub faulty : IsFaulty (octets_at texts text place) number fault

-- some events stop in front of each fault of a capture: none is behind the last whole record before it
abbrev pub StopInFront : List (List ℕ) → List ℕ → List Event → Type 0
StopInFront texts text es = (place : Tap) (n : ℕ) (fault : RecordFault) → IsFaultyAt texts text place n fault → NoneBehind place n es

module _ {T : Type 0} where
  -- a capture at whose record a run didn't stop, for its fault or for a failed read
  abbrev pub IsOther : Tap → Result T StreamFault → Type 0
  IsOther place (Err (stream.Run (faults.Record other n fault))) = place ≢ other
  IsOther place (Err (stream.Read other)) = place ≢ other
  IsOther place result = ⊤

  -- the captures hold these octets: of each so many records as stand among these events were read, and the next one is
  -- lent, or there is none and it ended
  abbrev pub AreReadBehind : List (List ℕ) → List ℕ → List Event → List Stream → Stream → Result T StreamFault → Type 0
  AreReadBehind texts text es ports underlay result =
      (place : Tap) (index : ℕ) → IsAt (length texts) index place → IsOther place result
      → (next : Option ℕ) × IsRead (octets_at texts text place) (record { done = records_among place es; next = next })
      (source_at ports underlay place)

-- ---- the events

-- the event of a record at this moment, behind so many others of its capture
abbrev pub record_event : Tap → ℕ → ℕ → Record → Event
record_event tap count moment r = record {
  moment = moment;
  number = count + 1;
  happening = happenings.Record tap (record { original = r.original; octets = r.octets });
}

-- the next event of the source with this index, behind so many others
abbrev pub IsNextEvent : List Stream → Stream → ℕ → ℕ → ℕ → Event → Type 0
IsNextEvent ports underlay index done moment e =
    ((index ≡ 0) × (e ≡ record { moment = moment; number = done + 1; happening = happenings.Change done }))
    ⊎ ((place : Tap) × (r : Record) × IsAt (length ports) index place
    × (lent (source_at ports underlay place).standing ≡ Some r) × (e ≡ record_event place done moment r))

-- ---- taken

-- changes without their moments
abbrev pub changes_of : List TimedChange → List Change
changes_of changes = map (λ (c : TimedChange). c.change) changes

-- an event was taken by the endpoint, and what comes of it was put to the outputs, where it is told to these segments
pub record IsTaken (segments : Segments) (changes : List TimedChange) (e : Event) (number : ℕ) (old new : State)
    (before behind : Drains) (result : Result (Unit {0}) Target) : Type 0 where
  pub state : new ≡ after_among segments old (event_of (changes_of changes) e)
  pub outputs : (start : Drains) (o : Outputs) → StandAt start before o
      → Lead start behind o (with_event_among segments (changes_of changes) number old o e) result
  pub order : (start : Drains) (o : Outputs) → StandAt start before o
      → PutsInOrder start behind number (named_by (changes_of changes) e.happening) o e
      (answer old (event_of (changes_of changes) e)) result

-- ---- fetched

-- the source of a capture is another, and all else as before
abbrev pub IsChangedAt : Tap → List Stream → Stream → List Stream → Stream → Stream → Type 0
IsChangedAt (taps.Port port) ports underlay new_ports new_underlay s = (new_ports ≡ slice_set ports (port - 1) s)
    × (new_underlay ≡ underlay)
IsChangedAt taps.Underlay ports underlay new_ports new_underlay s = (new_ports ≡ ports) × (new_underlay ≡ s)

-- the source with this index was asked for what comes next
abbrev pub FetchesAt : List TimedChange → ℕ → ℕ → ℕ → List Stream → Stream → List Stream → Stream → Result Turn StreamFault → Type 0
FetchesAt changes index done latest ports underlay new_ports new_underlay result =
    ((index ≡ 0) × (new_ports ≡ ports) × (new_underlay ≡ underlay) × (result ≡ Ok (record { done = done; next = moment_at changes done })))
    ⊎ ((place : Tap) × (s : Stream) × IsAt (length ports) index place
    × IsChangedAt place ports underlay new_ports new_underlay s
    × IsFetch (source_at ports underlay place) s place done latest result)

-- the same of a source of which so many events came: when the next comes, if there is one, or its own fault
abbrev pub FetchesFrom : List TimedChange → ℕ → ℕ → ℕ → List Stream → Stream → List Stream → Stream → Option ℕ
    → Result (Unit {0}) SourceFault → Type 0
FetchesFrom changes index done latest ports underlay new_ports new_underlay next (Ok x) =
    FetchesAt changes index done latest ports underlay new_ports new_underlay (Ok (record { done = done; next = next }))
FetchesFrom changes index done latest ports underlay new_ports new_underlay next (Err fault) =
    (tap : Tap) → (index ≢ 0 → IsAt (length ports) index tap)
    → FetchesAt changes index done latest ports underlay new_ports new_underlay (Err (fault_of tap (done + 1) fault))

-- ---- a step

module _ {T : Type 0} where
  -- the texts that stood are now the next ones, or a part of these where a write failed
  abbrev pub StepsTo : Drains → Drains → Outputs → Outputs → Result T StreamFault → Type 0
  StepsTo start new texts next (Err (stream.Write target)) = StandBetween start new texts next × FailedAt target start new
  StepsTo start new texts next result = StandAt start new next

module _ {T : Type 0} where
  -- behind an event its source's next record is lent, or its fault is told; nothing else was wrong with the captures
  abbrev pub Fetches : List TimedChange → List (List ℕ) → List ℕ → List Event → Event → Run → Result T StreamFault → Type 0
  Fetches changes texts text rest e new (Ok x) = AreRead texts text new.turns new.ports new.underlay
      × (rest ≡ coming changes texts text new.turns)
  Fetches changes texts text rest e new (Err (stream.Run (faults.Record place n fault))) =
      IsFaultyAt texts text place n fault × IsRecordBefore place n e
  Fetches changes texts text rest e new (Err (stream.Run fault)) = ⊥
  Fetches changes texts text rest e new (Err (stream.Read place)) = ⊤
  Fetches changes texts text rest e new (Err (stream.Write target)) = ⊤

-- the captures hold these octets: the event is the first of those that were to come, and the fetch goes on behind it
pub record ComesFirst (changes : List TimedChange) (texts : List (List ℕ)) (text : List ℕ) (old new : Run) (e : Event)
    (result : Result (Unit {0}) StreamFault) : Type 0 where
  pub rest : List Event
  pub first : coming changes texts text old.turns ≡ e ∷ rest
  pub fetched : Fetches changes texts text rest e new result

module _ {T : Type 0} where
  -- where a step stops, the sources stand as before, but that of the event where it was asked for another record
  abbrev pub StayBut : ℕ → Run → Run → Result T StreamFault → Type 0
  StayBut index old new (Ok x) = ⊤
  StayBut index old new (Err (stream.Write target)) = (new.ports ≡ old.ports) × (new.underlay ≡ old.underlay)
  StayBut index old new (Err (stream.Read place)) = (s : Stream) × IsAt (length old.ports) index place
      × IsChangedAt place old.ports old.underlay new.ports new.underlay s
  StayBut index old new (Err (stream.Run fault)) =
      (place : Tap) × (s : Stream) × IsAt (length old.ports) index place × IsChangedAt place old.ports old.underlay new.ports new.underlay s

module _ {T : Type 0} where
  -- a write fails only at an event that is taken in
  abbrev pub FailsWhere : Bool → Result T StreamFault → Type 0
  FailsWhere takes (Err (stream.Write target)) = takes ≡ true
  FailsWhere takes result = ⊤

-- of the source with this index one event more came
pub record CountsOne (index : ℕ) (old new : List Turn) : Type 0 where
  pub there : index < length old
  pub turn : Turn
  pub changed : new ≡ slice_set old index turn
  pub count : (t : Turn) → turn.done ≡ (slice_index_or old index t).done + 1

-- an event came and was taken in, or left out, and the next one of its source was asked for
pub record IsStep (segments : Segments) (changes : List TimedChange) (old new : Run) (first : First)
    (result : Result (Unit {0}) StreamFault) : Type 0 where
  pub e : Event
  -- whether it is taken in
  pub takes : Bool
  pub moment : e.moment ≡ first.moment
  pub time : (m : ℕ) → AreBehind m old.turns → m ≤ e.moment
  pub next : (t : Turn) → IsNextEvent old.ports old.underlay first.index (slice_index_or old.turns first.index t).done first.moment e
  pub state : new.state ≡ state_among segments (changes_of changes) old.state (kept takes e)
  pub number : new.number ≡ old.number + length (kept takes e)
  pub failed : FailsWhere takes result
  pub turns : OnOk result (CountsOne first.index old.turns new.turns)
  pub stay : StayBut first.index old new result
  pub outputs : (start : Drains) (o : Outputs) → StandAt start old.drains o
      → StepsTo start new.drains o (with_events_among segments (changes_of changes) old.number old.state o (kept takes e)) result
  pub order : (start : Drains) (o : Outputs) → StandAt start old.drains o
      → StepsInOrder (changes_of changes) start new.drains (old.number + 1) old.state o e result
  pub ready : (count : ℕ) → AreReady changes count old → OnOk result (AreReady changes (count + 1) new)
  pub later : OnOk result (AreBehind e.moment new.turns)
  pub reads : ReadsWith old.ports old.underlay new.ports new.underlay result
  pub told : (texts : List (List ℕ)) (text : List ℕ) → AreRead texts text old.turns old.ports old.underlay
      → ComesFirst changes texts text old new e result

-- ---- many steps

-- the texts that stand behind some events
abbrev pub texts_behind : Segments → List TimedChange → State → Outputs → List Event → Outputs
texts_behind segments changes s o es = with_events_among segments (changes_of changes) 0 s o es

module _ {T : Type 0} where
  -- the outputs hold the texts of what is taken in of these events, and where a write failed a part of those of one event
  -- more, and the other
  -- outputs a part of them too
  abbrev pub LeadsBehind : (List Event → List Event) → Segments → List TimedChange → State → Drains → Drains → Outputs
      → List Event → List Event → Result T StreamFault → Type 0
  LeadsBehind taken segments changes s start new o es more (Err (stream.Write target)) =
      StandBetween start new (texts_behind segments changes s o (taken es))
      (texts_behind segments changes s o (taken (es ++ more))) × FailedAt target start new
  LeadsBehind taken segments changes s start new o es more result = StandAt start new (texts_behind segments changes s o (taken es))

  -- of the event of which a part was written, its texts stand in order
  abbrev pub EndsInOrder : (List Event → List Event) → Segments → List TimedChange → State → Drains → Drains → Outputs
      → List Event → List Event → Result T StreamFault → Type 0
  EndsInOrder taken segments changes s start new o es more (Err (stream.Write target)) =
      (e : Event) → more ≡ e ∷ []
      → StandsInEvent (changes_of changes) start new (length (taken es) + 1)
      (state_among segments (changes_of changes) s (taken es)) (texts_behind segments changes s o (taken es)) e
  EndsInOrder taken segments changes s start new o es more result = ⊤

  -- a run that ends for want of memory is one for want of numbers: just as many events came as can be numbered
  abbrev pub EndsNumbered : List Event → Result T StreamFault → Type 0
  EndsNumbered es (Err (stream.Run faults.OutOfMemory)) = length es ≡ most_events
  EndsNumbered es result = ⊤

  -- the event of which a part was written: one where a write failed, and else none
  abbrev pub IsPart : List Event → Result T StreamFault → Type 0
  IsPart more (Err (stream.Write target)) = (e : Event) × (more ≡ e ∷ [])
  IsPart more result = more ≡ []

  -- a run over captures of these octets ends: with no event left, all records having come; at a record's fault, right
  -- behind the record before it; or as a read, a write or the want of memory has it
  abbrev pub EndsIn : List (List ℕ) → List ℕ → List Event → List Event → Run → Result T StreamFault → Type 0
  EndsIn texts text es rest new (Ok x) = (rest ≡ []) × AreRead texts text new.turns new.ports new.underlay
  EndsIn texts text es rest new (Err (stream.Run (faults.Record place n fault))) =
      IsFaultyAt texts text place n fault × EndBefore place n es
  EndsIn texts text es rest new (Err (stream.Run faults.OutOfMemory)) = ⊤
  EndsIn texts text es rest new (Err (stream.Run fault)) = ⊥
  EndsIn texts text es rest new (Err (stream.Read place)) = ⊤
  EndsIn texts text es rest new (Err (stream.Write target)) = ⊤

-- the captures hold these octets: the events are the first of those that were to come
pub record AreFirst (changes : List TimedChange) (texts : List (List ℕ)) (text : List ℕ) (old new : Run) (es more : List Event)
    (result : Result (Unit {0}) StreamFault) : Type 0 where
  pub rest : List Event
  pub first : coming changes texts text old.turns ≡ es ++ (more ++ rest)
  pub in_front : StopInFront texts text (es ++ more)
  pub read_on : AreReadBehind texts text es new.ports new.underlay result
  pub ends : EndsIn texts text es rest new result

-- some events came, one after another, and were taken in or left out
pub record IsRunOn (taken : List Event → List Event) (segments : Segments) (changes : List TimedChange) (old new : Run)
    (result : Result (Unit {0}) StreamFault) : Type 0 where
  pub es : List Event
  pub more : List Event
  pub part : IsPart more result
  pub numbered : EndsNumbered es result
  pub rising : IsRising old.state.moment (es ++ more)
  pub outputs : (start : Drains) (o : Outputs) → StandAt start old.drains o
      → LeadsBehind taken segments changes old.state start new.drains o es more result
  pub order : (start : Drains) (o : Outputs) → StandAt start old.drains o
      → EndsInOrder taken segments changes old.state start new.drains o es more result
  pub reads : ReadsWith old.ports old.underlay new.ports new.underlay result
  -- and none is left
  pub over : OnOk result ((t : Turn) (k : ℕ) → k < length new.turns → (slice_index_or new.turns k t).next ≡ None)
  pub ready : OnOk result (AreReady changes (length es) new)
  pub told : (texts : List (List ℕ)) (text : List ℕ) → AreRead texts text old.turns old.ports old.underlay
      → AreFirst changes texts text old new es more result
