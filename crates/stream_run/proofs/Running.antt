-- Many events, one after another.
use Rattle.std.proofs.Common.{◌≡◌, ◌≢◌, ◌∙◌, refl, sym, ap, subst, ℕ, ◌+◌, ◌-◌, ◌<◌, ◌≤◌, ◌⊎◌, Bool, true, false, slice_index_or, List, [], ◌∷◌, ◌++◌, length, map, arith, append_assoc, append-nil, None, Result, Ok, Err, length-append}
use Rattle.std.specs.Prelude.{⊤}
use Rattle.overlay.specs.declared.settings.change.Change.{Change}
use Rattle.overlay.specs.declared.settings.change.TimedChange.{TimedChange}
use Rattle.timeline.specs.Order.{IsRising, merged}
use Rattle.timeline.specs.Words.{source_of}
use Rattle.timeline.specs.declared.event.Event.{Event}
use Rattle.timeline.specs.declared.source.Source.TheVariants as sources
use Rattle.endpoint_core.specs.Among.{after_among}
use Rattle.endpoint_core.specs.Settings.{Settings}
use Rattle.endpoint_core.specs.Step.{State}
use Rattle.capture_run.specs.Outputs.{Outputs, event_of}
use Rattle.capture_run.specs.Among.{with_event_among, with_events_among}
use Rattle.capture_run.specs.declared.fault.RunFault.{RunFault}
use Rattle.capture_run.specs.declared.fault.RunFault.TheVariants as faults
use Rattle.pcap.specs.Source.{Stream}
use Rattle.pcap.specs.declared.stream.fault.SourceFault.TheVariants as source_
use Rattle.pcap.specs.declared.text.record.RecordFault.{RecordFault}
use Rattle.stream_run.specs.Amidst.{StandsInEvent}
use Rattle.stream_run.specs.Coming.{coming, source_events}
use Rattle.stream_run.specs.Read.{AreQuiet, GivesUpAt, failures_of}
use Rattle.stream_run.specs.Sieved.{Asked, GoesBy, asked, kept, taken_by}
use Rattle.stream_run.specs.Sights.{Sight, sight_among, sights, state_among}
use Rattle.stream_run.specs.Stage.{Drains, StandAt, StandBetween}
use Rattle.stream_run.specs.Steps.{AreBehind, AreFirst, AreRead, AreReadBehind, AreReady, EndsIn, EndsNumbered, Fetches, IsAt, IsNextEvent, IsRunOn, IsStep, Run, StopInFront, changes_of, most_events, texts_behind}
use Rattle.stream_run.specs.Watched.{IsPut, IsSievedRun, IsWatchedStep, state_behind}
use Rattle.stream_run.specs.Fault.{stopped}
use Rattle.stream_run.specs.declared.fault.Halt.{Halt}
use Rattle.stream_run.specs.declared.fault.Halt.TheVariants as halt
use Rattle.stream_run.specs.declared.fault.StreamFault.{StreamFault}
use Rattle.stream_run.specs.declared.fault.StreamFault.TheVariants as stream
use Rattle.stream_run.specs.declared.turn.First.{First}
use Rattle.stream_run.specs.declared.turn.Turn.{Turn}
use Rattle.stream_run.proofs.Counting.{AreAsMany, AreCounted, all_in_front, all_so, counts_on, next_is, none_came, one_came, one_in_front, others_so}
use Rattle.stream_run.proofs.Merging.{none_left}
use Rattle.stream_run.proofs.Telling.{are_ahead}
use Rattle.timeline.specs.declared.source.Tap.{Tap}
use Rattle.timeline.specs.declared.source.Tap.TheVariants.{Port, Underlay}
use Rattle.std.proofs.lemmas.List.{get_or-map, length-map}
use Rattle.std.specs.List.{FoldsTo}
use Rattle.pcap.specs.Counts.{GoesOnBy}
use Rattle.pcap.specs.Supply.{GivesUp, Supply}
use Rattle.segment_set.specs.Segments.{Segments}

-- events behind events
folds_append : {P X : Type 0} (step : P → X → P → Type 0) (xs ys : List X) (p q r : P) → FoldsTo step p xs q → FoldsTo step q ys r → FoldsTo step p (xs ++ ys) r
folds_append step [] ys p q r h last = subst (λ a. FoldsTo step a ys r) (sym h) last
folds_append step (x ∷ xs) ys p q r h last = (h.0, h.1, folds_append step xs ys h.0 q r h.2 last)

-- the moment of the last of some events, or this one
abbrev pub latest_of : ℕ → List Event → ℕ
latest_of m [] = m
latest_of m (e ∷ es) = latest_of e.moment es

rising_snoc : (m : ℕ) (es : List Event) (e : Event) → IsRising m es → latest_of m es ≤ e.moment → IsRising m (es ++ e ∷ [])
rising_snoc m [] e h le = (le, tt)
rising_snoc m (f ∷ es) e h le = (h.0, rising_snoc f.moment es e h.1 le)

latest_snoc : (m : ℕ) (es : List Event) (e : Event) → latest_of m (es ++ e ∷ []) ≡ e.moment
latest_snoc m [] e = refl
latest_snoc m (f ∷ es) e = latest_snoc f.moment es e

-- the captures hold these octets: the events are the first of those that were to come, and the others are still to come
pub record IsUpTo (changes : List TimedChange) (texts : List (List ℕ)) (text : List ℕ) (old now : Run) (es : List Event) : Type 0 where
  pub read : AreRead texts text now.turns now.ports now.underlay
  pub first : coming changes texts text old.turns ≡ es ++ coming changes texts text now.turns

-- it is the first of those that were still to come
comes_next : (changes : List TimedChange) (texts : List (List ℕ)) (text : List ℕ) (old now : Run) (es rest : List Event) (e : Event) → IsUpTo changes texts text old now es
    → coming changes texts text now.turns ≡ e ∷ rest → coming changes texts text old.turns ≡ (es ++ e ∷ []) ++ rest
comes_next changes texts text old now es rest e up_to is = up_to.first ∙ ap (λ l. es ++ l) is ∙ sym (append_assoc es (e ∷ []) rest)

pub quiet_on : (a b c : List Stream) (x y z : Stream) → AreQuiet a x b y → AreQuiet b y c z → AreQuiet a x c z
quiet_on a b c x y z p q = record { ports = q.ports ∙ p.ports; underlay = q.underlay ∙ p.underlay }

-- ---- where it stops

same_failures : (old now : List Stream) (i : ℕ) (d : Stream) → i < length now → map failures_of now ≡ map failures_of old → failures_of (slice_index_or now i d) ≡ failures_of (slice_index_or old i d)
same_failures old now i d there same =
    sym (get_or-map failures_of now i d (failures_of d) there) ∙ ap (λ l. slice_index_or l i (failures_of d)) same
    ∙ get_or-map failures_of old i d (failures_of d) (omega (arith, there, ap length same, length-map now failures_of, length-map old failures_of))

gives_up_from : (old now new : Supply) → now.failures ≡ old.failures → GivesUp now new → GivesUp old new
gives_up_from old now new same up = subst (λ n. GoesOnBy 1 n new.failures ⊎ ((new.failures ≡ n) × (new.reads ≡ 0))) same up

pub gives_up_on : (place : Tap) (a b c : List Stream) (x y z : Stream) → AreQuiet a x b y → GivesUpAt place b y c z → GivesUpAt place a x c z
gives_up_on (Port p) a b c x y z quiet up = λ d.
    let h = up d in
    let there : p - 1 < length b = omega (arith, h.0, h.1) in (
      h.0,
      omega (arith, h.1, ap length quiet.ports, length-map b failures_of, length-map a failures_of),
      gives_up_from (slice_index_or a (p - 1) d).supply (slice_index_or b (p - 1) d).supply (slice_index_or c (p - 1) d).supply (same_failures a b (p - 1) d there quiet.ports) h.2,
    )
gives_up_on Underlay a b c x y z quiet up = gives_up_from x.supply y.supply z.supply quiet.underlay up

-- so it is with a capture that isn't read on
stops_run : (changes : List TimedChange) (texts : List (List ℕ)) (text : List ℕ) (new : Run) (es rest : List Event) (e : Event) (f : RunFault)
    → Fetches {T = Unit {0}} changes texts text rest e new (Err (stream.Run f)) → EndsIn {T = Unit {0}} texts text (es ++ e ∷ []) rest new (Err (stream.Run f))
stops_run changes texts text new es rest e (faults.Record place n f) h = (h.0, record { others = es; last = e; ends = refl; is_before = h.1 })
stops_run changes texts text new es rest e (faults.Settings f) h = absurd h
stops_run changes texts text new es rest e (faults.Changes f) h = absurd h
stops_run changes texts text new es rest e faults.PortCount h = absurd h
stops_run changes texts text new es rest e (faults.Capture place f) h = absurd h
stops_run changes texts text new es rest e faults.OutOfMemory h = absurd h

-- it stops, but not at a failed write
abbrev StopsWhole : StreamFault → Type 0
StopsWhole (stream.Write target) = ⊥
StopsWhole fault = ⊤

-- where an event stops it, memory isn't wanting
never_wanting : (tap : Tap) (n : ℕ) (h : Halt) (es : List Event) → EndsNumbered {T = Unit {0}} es (Err (stopped tap n h))
never_wanting tap n (halt.Write target) es = tt
never_wanting tap n (halt.Source source_.Read) es = tt
never_wanting tap n (halt.Source source_.NotPcap) es = tt
never_wanting tap n (halt.Source source_.BadLink) es = tt
never_wanting tap n (halt.Source source_.TooLarge) es = tt
never_wanting tap n (halt.Source source_.BadFraction) es = tt

-- no source comes before a moment that none of its events is before
pub ready_more : (changes : List TimedChange) (less more : ℕ) (r : Run) → less ≤ more → AreReady changes less r → AreReady changes more r
ready_more changes less more r le ready = record {
  timely = ready.timely;
  size = ready.size;
  few = ready.few;
  known = ready.known;
  behind = ready.behind;
  moments = ready.moments;
  done = λ t k lt. let few = ready.done t k lt in omega (arith, few, le);
  change = ready.change;
  heads = ready.heads;
}

module _ (segments : Segments) where
  -- events behind others
  events_append : (cs : List Change) (count number : ℕ) (s : State) (o : Outputs) (xs ys : List Event) → number ≡ count + length xs
      → with_events_among segments cs count s o (xs ++ ys) ≡ with_events_among segments cs number (state_among segments cs s xs) (with_events_among segments cs count s o xs) ys
  events_append cs count number s o [] ys is =
      let same : count ≡ number = omega (arith, is) in
      ap (λ n. with_events_among segments cs n s o ys) same
  events_append cs count number s o (x ∷ xs) ys is =
      events_append cs (count + 1) number (after_among segments s (event_of cs x)) (with_event_among segments cs (count + 1) s o x) xs ys (omega (arith, is))

  state_append : (cs : List Change) (s : State) (xs ys : List Event) → state_among segments cs s (xs ++ ys) ≡ state_among segments cs (state_among segments cs s xs) ys
  state_append cs s [] ys = refl
  state_append cs s (x ∷ xs) ys = state_append cs (after_among segments s (event_of cs x)) xs ys

  sights_append : (cs : List Change) (count number : ℕ) (s : State) (xs ys : List Event) → number ≡ count + length xs
      → sights segments cs s count (xs ++ ys) ≡ sights segments cs s count xs ++ sights segments cs (state_among segments cs s xs) number ys
  sights_append cs count number s [] ys is =
      let same : count ≡ number = omega (arith, is) in
      ap (λ n. sights segments cs s n ys) same
  sights_append cs count number s (x ∷ xs) ys is =
      ap (λ l. sight_among segments cs s (count + 1) x ∷ l) (sights_append cs (count + 1) number (after_among segments s (event_of cs x)) xs ys (omega (arith, is)))

-- an event is taken in once, or not
few_kept : (takes : Bool) (e : Event) → length (kept takes e) ≤ 1
few_kept true e = omega arith
few_kept false e = omega arith

module _ (taken : List Event → List Event) (segments : Segments) where
  -- how far a run has come
  pub record HasRun (changes : List TimedChange) (old now : Run) : Type 0 where
    pub es : List Event
    pub number : now.number ≡ length (taken es)
    pub few : length (taken es) ≤ length es
    pub state : now.state ≡ state_among segments (changes_of changes) old.state (taken es)
    pub ready : AreReady changes (length es) now
    pub rising : IsRising old.state.moment es
    pub behind : AreBehind (latest_of old.state.moment es) now.turns
    pub quiet : AreQuiet old.ports old.underlay now.ports now.underlay
    pub told : (texts : List (List ℕ)) (text : List ℕ) → AreRead texts text old.turns old.ports old.underlay → IsUpTo changes texts text old now es
    pub outputs : (start : Drains) (o : Outputs) → StandAt start old.drains o → StandAt start now.drains (texts_behind segments changes old.state o (taken es))
    pub counted : AreCounted (length now.ports) now.turns es
    pub many : AreAsMany (length now.ports) now.turns es

  run_begins : (changes : List TimedChange) (old : Run) → taken [] ≡ [] → old.number ≡ 0 → AreReady changes 0 old → HasRun changes old old
  run_begins changes old nothing none ready = record {
    es = [];
    number = none ∙ sym (ap length nothing);
    few = omega (arith, ap length nothing);
    state = sym (ap (state_among segments (changes_of changes) old.state) nothing);
    ready = ready;
    rising = tt;
    behind = ready.behind;
    quiet = record { ports = refl; underlay = refl };
    told = λ texts text read. record { read = read; first = refl };
    outputs = λ start o at. subst (λ es. StandAt start old.drains (texts_behind segments changes old.state o es)) (sym nothing) at;
    counted = λ place index t at. tt;
    many = none_came (length old.ports) old.turns ready.size ready.done;
  }

  -- what is taken in behind an event
  abbrev pub TakesMore : List Event → Bool → Event → Type 0
  TakesMore es takes e = taken (es ++ e ∷ []) ≡ taken es ++ kept takes e

  -- the texts behind one event more
  one_more : (changes : List TimedChange) (old now : Run) (has : HasRun changes old now) (takes : Bool) (e : Event) (o : Outputs) → TakesMore has.es takes e
      → texts_behind segments changes old.state o (taken (has.es ++ e ∷ [])) ≡ with_events_among segments (changes_of changes) now.number now.state (texts_behind segments changes old.state o (taken has.es)) (kept takes e)
  one_more changes old now has takes e o more =
      ap (texts_behind segments changes old.state o) more
      ∙ events_append segments (changes_of changes) 0 now.number old.state o (taken has.es) (kept takes e) (omega (arith, has.number))
      ∙ ap (λ s. with_events_among segments (changes_of changes) now.number s (texts_behind segments changes old.state o (taken has.es)) (kept takes e)) (sym has.state)

  -- it comes no sooner than the others
  rises_on : (changes : List TimedChange) (old now new : Run) (first : First) (result : Result (Unit {0}) StreamFault) (has : HasRun changes old now) (step : IsStep segments changes now new first result)
      → IsRising old.state.moment (has.es ++ step.e ∷ [])
  rises_on changes old now new first result has step = rising_snoc old.state.moment has.es step.e has.rising (step.time (latest_of old.state.moment has.es) has.behind)

  -- as many captures
  as_many : (now new : Run) → AreQuiet now.ports now.underlay new.ports new.underlay → length now.ports ≡ length new.ports
  as_many now new quiet = omega (arith, ap length quiet.ports, length-map new.ports failures_of, length-map now.ports failures_of)

  -- the state behind it
  state_on : (changes : List TimedChange) (old now new : Run) (first : First) (result : Result (Unit {0}) StreamFault) (has : HasRun changes old now) (step : IsStep segments changes now new first result) → TakesMore has.es step.takes step.e
      → new.state ≡ state_among segments (changes_of changes) old.state (taken (has.es ++ step.e ∷ []))
  state_on changes old now new first result has step more =
      step.state ∙ ap (λ s. state_among segments (changes_of changes) s (kept step.takes step.e)) has.state
      ∙ sym (state_append segments (changes_of changes) old.state (taken has.es) (kept step.takes step.e)) ∙ sym (ap (state_among segments (changes_of changes) old.state) more)

  run_steps : (changes : List TimedChange) (old now new : Run) (first : First) (has : HasRun changes old now) (step : IsStep segments changes now new first (Ok tt)) → TakesMore has.es step.takes step.e → HasRun changes old new
  run_steps changes old now new first has step more = record {
    es = has.es ++ step.e ∷ [];
    number = omega (arith, step.number, has.number, ap length more, length-append (taken has.es) (kept step.takes step.e));
    few = omega (arith, has.few, ap length more, length-append (taken has.es) (kept step.takes step.e), few_kept step.takes step.e, length-append has.es (step.e ∷ []));
    state = state_on changes old now new first (Ok tt) has step more;
    ready = subst (λ n. AreReady changes n new) (sym (length-append has.es (step.e ∷ []))) (step.ready (length has.es) has.ready);
    rising = rises_on changes old now new first (Ok tt) has step;
    behind = subst (λ m. AreBehind m new.turns) (sym (latest_snoc old.state.moment has.es step.e)) step.later;
    quiet = quiet_on old.ports now.ports new.ports old.underlay now.underlay new.underlay has.quiet step.reads;
    told = λ texts text read.
        let up_to = has.told texts text read in
        let came = step.told texts text up_to.read in
        record { read = came.fetched.0; first = comes_next changes texts text old now has.es (coming changes texts text new.turns) step.e up_to (came.first ∙ ap (λ l. step.e ∷ l) came.fetched.1) };
    outputs = λ start o at. subst (StandAt start new.drains) (sym (one_more changes old now has step.takes step.e o more)) (step.outputs start (texts_behind segments changes old.state o (taken has.es)) (has.outputs start o at));
    counted =
        subst (λ n. AreCounted n new.turns (has.es ++ step.e ∷ [])) (as_many now new step.reads) (counts_on now.ports now.underlay now.turns new.turns first.index first.moment has.es step.e has.counted step.next step.turns);
    many =
        subst (λ n. AreAsMany n new.turns (has.es ++ step.e ∷ [])) (as_many now new step.reads) (one_came now.ports now.underlay now.turns new.turns first.index first.moment has.es step.e has.many step.next step.turns);
  }

  -- a record's fault is one of the capture whose event came
  own_fault : (changes : List TimedChange) (texts : List (List ℕ)) (text : List ℕ) (now new : Run) (first : First) (rest : List Event) (e : Event) (place source : Tap) (n : ℕ) (f : RecordFault)
      → ((t : Turn) → IsNextEvent now.ports now.underlay first.index (slice_index_or now.turns first.index t).done first.moment e) → IsAt (length now.ports) first.index source
      → Fetches {T = Unit {0}} changes texts text rest e new (Err (stream.Run (faults.Record place n f))) → place ≡ source
  own_fault changes texts text now new first rest e place source n f next at fetched =
      let t : Turn = record { done = 0; next = None } in
      let from = next_is now.ports now.underlay first.index (slice_index_or now.turns first.index t).done first.moment source e (next t) at in
      let of_it : source_of e.happening ≡ sources.Tap place = fetched.1.source in
      cc

  -- at a fault the other captures stand behind it
  read_but : (changes : List TimedChange) (texts : List (List ℕ)) (text : List ℕ) (old now new : Run) (first : First) (fault : StreamFault) (has : HasRun changes old now) (step : IsStep segments changes now new first (Err fault))
      → AreRead texts text old.turns old.ports old.underlay → StopsWhole fault → AreReadBehind {T = Unit {0}} texts text (has.es ++ step.e ∷ []) new.ports new.underlay (Err fault)
  read_but changes texts text old now new first (stream.Write target) has step read whole place i at other = absurd whole
  read_but changes texts text old now new first (stream.Read source) has step read whole place i at other =
      let up_to = has.told texts text read in
      others_so texts text now.turns now.ports now.underlay has.es up_to.read has.many first.index first.moment source step.e new.ports new.underlay step.stay.0 step.next step.stay.1 step.stay.2 place i at other
  read_but changes texts text old now new first (stream.Run (faults.Record source n f)) has step read whole place i at other =
      let up_to = has.told texts text read in
      let came = step.told texts text up_to.read in
      let own : source ≡ step.stay.0 = own_fault changes texts text now new first came.rest step.e source step.stay.0 n f step.next step.stay.2 came.fetched in
      others_so texts text now.turns now.ports now.underlay has.es up_to.read has.many first.index first.moment step.stay.0 step.e new.ports new.underlay step.stay.1 step.next step.stay.2 step.stay.3 place i at (subst (λ p. place ≢ p) own other)
  read_but changes texts text old now new first (stream.Run (faults.Settings f)) has step read whole place i at other = absurd (step.told texts text (has.told texts text read).read).fetched
  read_but changes texts text old now new first (stream.Run (faults.Changes f)) has step read whole place i at other = absurd (step.told texts text (has.told texts text read).read).fetched
  read_but changes texts text old now new first (stream.Run faults.PortCount) has step read whole place i at other = absurd (step.told texts text (has.told texts text read).read).fetched
  read_but changes texts text old now new first (stream.Run (faults.Capture p f)) has step read whole place i at other = absurd (step.told texts text (has.told texts text read).read).fetched
  read_but changes texts text old now new first (stream.Run faults.OutOfMemory) has step read whole place i at other = absurd (step.told texts text (has.told texts text read).read).fetched

  -- at a fault the event stands behind the others
  stops_at : (changes : List TimedChange) (texts : List (List ℕ)) (text : List ℕ) (old now new : Run) (first : First) (fault : StreamFault) (has : HasRun changes old now) (step : IsStep segments changes now new first (Err fault))
      → AreRead texts text old.turns old.ports old.underlay → StopsWhole fault
      → ((rest : List Event) → Fetches {T = Unit {0}} changes texts text rest step.e new (Err fault) → EndsIn {T = Unit {0}} texts text (has.es ++ step.e ∷ []) rest new (Err fault))
      → AreFirst changes texts text old new (has.es ++ step.e ∷ []) [] (Err fault)
  stops_at changes texts text old now new first fault has step read whole ends =
      let up_to = has.told texts text read in
      let came = step.told texts text up_to.read in
      let es = has.es ++ step.e ∷ [] in
      record {
        rest = came.rest;
        first = comes_next changes texts text old now has.es came.rest step.e up_to came.first;
        in_front = subst (StopInFront texts text) (sym (append-nil es)) (one_in_front texts text now.turns now.ports now.underlay has.es up_to.read has.counted step.e);
        read_on = read_but changes texts text old now new first fault has step read whole;
        ends = ends came.rest came.fetched;
      }

  -- amidst the event behind the others
  stops_amidst : (changes : List TimedChange) (old now : Run) (start new : Drains) (o : Outputs) (has : HasRun changes old now) (e f : Event) → ◌≡◌ {A = List Event} (e ∷ []) (f ∷ [])
      → StandsInEvent (changes_of changes) start new (now.number + 1) now.state (texts_behind segments changes old.state o (taken has.es)) e
      → StandsInEvent (changes_of changes) start new (length (taken has.es) + 1) (state_among segments (changes_of changes) old.state (taken has.es)) (texts_behind segments changes old.state o (taken has.es)) f
  stops_amidst changes old now start new o has e f is stands =
      let same : e ≡ f = cc in
      let texts = texts_behind segments changes old.state o (taken has.es) in
      subst (StandsInEvent (changes_of changes) start new (length (taken has.es) + 1) (state_among segments (changes_of changes) old.state (taken has.es)) texts) same
      (subst (λ s. StandsInEvent (changes_of changes) start new (length (taken has.es) + 1) s texts e) has.state
      (subst (λ n. StandsInEvent (changes_of changes) start new (n + 1) now.state texts e) has.number stands))

  run_stops : (changes : List TimedChange) (old now new : Run) (first : First) (fault : StreamFault) (has : HasRun changes old now) (step : IsStep segments changes now new first (Err fault)) → TakesMore has.es step.takes step.e → ((es : List Event) → EndsNumbered {T = Unit {0}} es (Err fault)) → IsRunOn taken segments changes old new (Err fault)
  run_stops changes old now new first (stream.Write target) has step more numbered = record {
    es = has.es;
    more = step.e ∷ [];
    part = (step.e, refl);
    numbered = tt;
    rising = rises_on changes old now new first (Err (stream.Write target)) has step;
    outputs = λ start o at.
        let lead = step.outputs start (texts_behind segments changes old.state o (taken has.es)) (has.outputs start o at) in
        (subst (StandBetween start new.drains (texts_behind segments changes old.state o (taken has.es))) (sym (one_more changes old now has step.takes step.e o more)) lead.0, lead.1);
    order = λ start o at e is. stops_amidst changes old now start new.drains o has step.e e is (step.order start (texts_behind segments changes old.state o (taken has.es)) (has.outputs start o at));
    reads = quiet_on old.ports now.ports new.ports old.underlay now.underlay new.underlay has.quiet step.reads;
    over = tt;
    ready = tt;
    told = λ texts text read.
        let up_to = has.told texts text read in
        let came = step.told texts text up_to.read in
        record {
          rest = came.rest;
          first = up_to.first ∙ ap (λ l. has.es ++ l) came.first;
          in_front = one_in_front texts text now.turns now.ports now.underlay has.es up_to.read has.counted step.e;
          read_on = subst (λ ports. AreReadBehind {T = Unit {0}} texts text has.es ports new.underlay (Err (stream.Write target))) (sym step.stay.0)
              (subst (λ underlay. AreReadBehind {T = Unit {0}} texts text has.es now.ports underlay (Err (stream.Write target))) (sym step.stay.1)
              (all_so texts text now.turns now.ports now.underlay has.es up_to.read has.many (Err (stream.Write target))));
          ends = tt;
        };
  }
  run_stops changes old now new first (stream.Run f) has step more numbered = record {
    order = λ start o at. tt;
    es = has.es ++ step.e ∷ [];
    more = [];
    part = refl;
    numbered = numbered (has.es ++ step.e ∷ []);
    rising = rw (append-nil (has.es ++ step.e ∷ [])) (rises_on changes old now new first (Err (stream.Run f)) has step);
    outputs = λ start o at. subst (StandAt start new.drains) (sym (one_more changes old now has step.takes step.e o more)) (step.outputs start (texts_behind segments changes old.state o (taken has.es)) (has.outputs start o at));
    reads = quiet_on old.ports now.ports new.ports old.underlay now.underlay new.underlay has.quiet step.reads;
    over = tt;
    ready = tt;
    told = λ texts text read. stops_at changes texts text old now new first (stream.Run f) has step read tt (λ rest h. stops_run changes texts text new has.es rest step.e f h);
  }
  run_stops changes old now new first (stream.Read place) has step more numbered = record {
    order = λ start o at. tt;
    es = has.es ++ step.e ∷ [];
    more = [];
    part = refl;
    numbered = tt;
    rising = rw (append-nil (has.es ++ step.e ∷ [])) (rises_on changes old now new first (Err (stream.Read place)) has step);
    outputs = λ start o at. subst (StandAt start new.drains) (sym (one_more changes old now has step.takes step.e o more)) (step.outputs start (texts_behind segments changes old.state o (taken has.es)) (has.outputs start o at));
    reads = gives_up_on place old.ports now.ports new.ports old.underlay now.underlay new.underlay has.quiet step.reads;
    over = tt;
    ready = tt;
    told = λ texts text read. stops_at changes texts text old now new first (stream.Read place) has step read tt (λ rest h. tt);
  }

  -- ---- where it ends

  -- no event more comes
  goes_no_further : (changes : List TimedChange) (old now : Run) (has : HasRun changes old now) (texts : List (List ℕ)) (text : List ℕ) → AreRead texts text old.turns old.ports old.underlay
      → (result : Result (Unit {0}) StreamFault) → EndsIn texts text has.es (coming changes texts text now.turns) now result → AreFirst changes texts text old now has.es [] result
  goes_no_further changes old now has texts text read result ends =
      let up_to = has.told texts text read in
      record {
        rest = coming changes texts text now.turns;
        first = up_to.first;
        in_front = subst (StopInFront texts text) (sym (append-nil has.es)) (all_in_front texts text now.turns now.ports now.underlay has.es up_to.read has.counted);
        read_on = all_so texts text now.turns now.ports now.underlay has.es up_to.read has.many result;
        ends = ends;
      }

  -- nothing of its sources is left
  run_ends : (changes : List TimedChange) (old now : Run) → HasRun changes old now → ((t : Turn) (k : ℕ) → k < length now.turns → (slice_index_or now.turns k t).next ≡ None) → IsRunOn taken segments changes old now (Ok tt)
  run_ends changes old now has none = record {
    order = λ start o at. tt;
    es = has.es;
    more = [];
    part = refl;
    numbered = tt;
    rising = rw (append-nil has.es) has.rising;
    outputs = has.outputs;
    reads = has.quiet;
    over = none;
    ready = has.ready;
    told = λ texts text read.
        let up_to = has.told texts text read in
        let ahead = are_ahead changes texts text now.turns now.ports now.underlay has.ready.size has.ready.timely has.ready.change up_to.read in
        goes_no_further changes old now has texts text read (Ok tt) (ap merged (none_left now.turns (source_events changes texts text) ahead none), up_to.read);
  }

  -- no number is left
  run_breaks : (changes : List TimedChange) (old now : Run) → (has : HasRun changes old now) → length has.es ≡ most_events → IsRunOn taken segments changes old now (Err (stream.Run faults.OutOfMemory))
  run_breaks changes old now has last = record {
    order = λ start o at. tt;
    es = has.es;
    more = [];
    part = refl;
    numbered = last;
    rising = rw (append-nil has.es) has.rising;
    outputs = has.outputs;
    reads = has.quiet;
    over = tt;
    ready = tt;
    told = λ texts text read. goes_no_further changes old now has texts text read (Err (stream.Run faults.OutOfMemory)) tt;
  }

-- of none a sieve takes none, whatever is in force
pub none_by : {S : Type 0} (taken : S → Settings → List TimedChange → List Event → List Event) → ((s : S) (settings : Settings) (changes : List TimedChange) → taken s settings changes [] ≡ [])
    → (changes : List TimedChange) (a : Asked S) → taken_by taken changes a [] ≡ []
none_by taken none changes a = none a.sieve a.settings changes

-- a run of a sieve that was asked at the same settings
pub with_settings : (segments : Segments) {S T : Type 0} (taken : S → Settings → List TimedChange → List Event → List Event) (goes : S → Settings → List TimedChange → Event → S → Type 0) (sees : T → Sight → T → Type 0) (changes : List TimedChange) (old new : Run) (sieve : S) (settings same : Settings) (new_sieve : Asked S)
    (old_watch new_watch : T) (result : Result (Unit {0}) StreamFault) → settings ≡ same → IsSievedRun segments (taken_by taken changes) (GoesBy goes changes) sees changes old new (asked sieve settings) new_sieve old_watch new_watch result
    → IsSievedRun segments (taken_by taken changes) (GoesBy goes changes) sees changes old new (asked sieve same) new_sieve old_watch new_watch result
with_settings segments taken goes sees changes old new sieve settings same new_sieve old_watch new_watch result is run =
    subst (λ (x : Settings). IsSievedRun segments (taken_by taken changes) (GoesBy goes changes) sees changes old new (asked sieve x) new_sieve old_watch new_watch result) is run

-- ---- with what is seen

module _ (segments : Segments) {S T : Type 0} (taken : S → List Event → List Event) (goes : S → Event → S → Type 0) (sees : T → Sight → T → Type 0) where
  -- nothing behind them
  runs_out : (whole : List Event → List Event) (changes : List TimedChange) (s : State) (es : List Event) (old_watch new_watch : T)
      → FoldsTo sees old_watch (sights segments (changes_of changes) s 0 (whole es)) new_watch → FoldsTo sees old_watch (sights segments (changes_of changes) s 0 (whole (es ++ []))) new_watch
  runs_out whole changes s es old_watch new_watch h = subst (λ l. FoldsTo sees old_watch (sights segments (changes_of changes) s 0 (whole l)) new_watch) (sym (append-nil es)) h

  goes_out : (es : List Event) (old_sieve new_sieve : S) → FoldsTo goes old_sieve es new_sieve → FoldsTo goes old_sieve (es ++ []) new_sieve
  goes_out es old_sieve new_sieve h = subst (λ l. FoldsTo goes old_sieve l new_sieve) (sym (append-nil es)) h

  -- how far a run has come, what was seen of it, and what its sieve takes in from here on
  pub record HasShown (changes : List TimedChange) (old now : Run) (count : ℕ) (old_sieve now_sieve : S) (old_watch now_watch : T) : Type 0 where
    pub has : HasRun (taken old_sieve) segments changes old now
    pub many : length has.es ≡ count
    pub sieved : (rest : List Event) → taken old_sieve (has.es ++ rest) ≡ taken old_sieve has.es ++ taken now_sieve rest
    pub went : FoldsTo goes old_sieve has.es now_sieve
    pub seen : FoldsTo sees old_watch (sights segments (changes_of changes) old.state 0 (taken old_sieve has.es)) now_watch

  module _ (none : (s : S) → taken s [] ≡ []) (changes : List TimedChange) (old : Run) (old_sieve : S) (old_watch : T) where
    pub shown_begins : old.number ≡ 0 → AreReady changes 0 old → HasShown changes old old 0 old_sieve old_sieve old_watch old_watch
    unfolding run_begins
    shown_begins zero ready = record {
      has = run_begins (taken old_sieve) segments changes old (none old_sieve) zero ready;
      many = refl;
      sieved = λ rest. sym (ap (λ l. l ++ taken old_sieve rest) (none old_sieve));
      went = refl;
      seen = subst (λ l. FoldsTo sees old_watch (sights segments (changes_of changes) old.state 0 l) old_watch) (sym (none old_sieve)) refl;
    }

    -- an event more is taken in, or left out
    abbrev Steps : Run → Run → First → S → S → T → T → Result (Unit {0}) StreamFault → Type 0
    Steps now new first now_sieve new_sieve now_watch new_watch result = IsWatchedStep segments taken goes sees changes now new first now_sieve new_sieve now_watch new_watch result

    sieves_on : (es : List Event) (takes : Bool) (e : Event) (now_sieve new_sieve : S) → ((rest : List Event) → taken old_sieve (es ++ rest) ≡ taken old_sieve es ++ taken now_sieve rest)
        → ((rest : List Event) → taken now_sieve (e ∷ rest) ≡ kept takes e ++ taken new_sieve rest) → (rest : List Event) → taken old_sieve ((es ++ e ∷ []) ++ rest) ≡ (taken old_sieve es ++ kept takes e) ++ taken new_sieve rest
    sieves_on es takes e now_sieve new_sieve so step rest =
        ap (taken old_sieve) (append_assoc es (e ∷ []) rest) ∙ so (e ∷ rest) ∙ ap (λ l. taken old_sieve es ++ l) (step rest) ∙ sym (append_assoc (taken old_sieve es) (kept takes e) (taken new_sieve rest))

    takes_more : (es : List Event) (takes : Bool) (e : Event) (now_sieve new_sieve : S) → ((rest : List Event) → taken old_sieve (es ++ rest) ≡ taken old_sieve es ++ taken now_sieve rest)
        → ((rest : List Event) → taken now_sieve (e ∷ rest) ≡ kept takes e ++ taken new_sieve rest) → TakesMore (taken old_sieve) segments es takes e
    takes_more es takes e now_sieve new_sieve so step =
        ap (taken old_sieve) (sym (append-nil (es ++ e ∷ []))) ∙ sieves_on es takes e now_sieve new_sieve so step []
        ∙ ap (λ l. (taken old_sieve es ++ kept takes e) ++ l) (none new_sieve) ∙ append-nil (taken old_sieve es ++ kept takes e)

    -- one event more is seen
    sees_more : (now : Run) (has : HasRun (taken old_sieve) segments changes old now) (takes : Bool) (e : Event) (now_watch new_watch : T) → TakesMore (taken old_sieve) segments has.es takes e
        → FoldsTo sees old_watch (sights segments (changes_of changes) old.state 0 (taken old_sieve has.es)) now_watch
        → FoldsTo sees now_watch (sights segments (changes_of changes) now.state now.number (kept takes e)) new_watch → FoldsTo sees old_watch (sights segments (changes_of changes) old.state 0 (taken old_sieve (has.es ++ e ∷ []))) new_watch
    sees_more now has takes e now_watch new_watch more seen next =
        subst (λ l. FoldsTo sees old_watch l new_watch)
        (sym (ap (sights segments (changes_of changes) old.state 0) more ∙ sights_append segments (changes_of changes) 0 now.number old.state (taken old_sieve has.es) (kept takes e) (omega (arith, has.number))))
        (folds_append sees (sights segments (changes_of changes) old.state 0 (taken old_sieve has.es)) _ old_watch now_watch new_watch seen
        (subst (λ s. FoldsTo sees now_watch (sights segments (changes_of changes) s now.number (kept takes e)) new_watch) has.state next))

    goes_more : (es : List Event) (e : Event) (now_sieve new_sieve : S) → FoldsTo goes old_sieve es now_sieve → goes now_sieve e new_sieve → FoldsTo goes old_sieve (es ++ e ∷ []) new_sieve
    goes_more es e now_sieve new_sieve went next = folds_append goes es (e ∷ []) old_sieve now_sieve new_sieve went (new_sieve, next, refl)

    pub shown_steps : (now new : Run) (count : ℕ) (first : First) (now_sieve new_sieve : S) (now_watch new_watch : T) → HasShown changes old now count old_sieve now_sieve old_watch now_watch → Steps now new first now_sieve new_sieve now_watch new_watch (Ok tt)
        → HasShown changes old new (count + 1) old_sieve new_sieve old_watch new_watch
    unfolding run_steps
    shown_steps now new count first now_sieve new_sieve now_watch new_watch so step =
        let more = takes_more so.has.es step.step.takes step.step.e now_sieve new_sieve so.sieved step.sieved in
        record {
          has = run_steps (taken old_sieve) segments changes old now new first so.has step.step more;
          many = length-append so.has.es (step.step.e ∷ []) ∙ ap (λ n. n + 1) so.many;
          sieved = λ rest. sieves_on so.has.es step.step.takes step.step.e now_sieve new_sieve so.sieved step.sieved rest ∙ ap (λ l. l ++ taken new_sieve rest) (sym more);
          went = goes_more so.has.es step.step.e now_sieve new_sieve so.went step.went;
          seen = sees_more now so.has step.step.takes step.step.e now_watch new_watch more so.seen step.seen;
        }

    pub shown_stops : (now new : Run) (count : ℕ) (first : First) (now_sieve new_sieve : S) (now_watch new_watch : T) (fault : StreamFault) → HasShown changes old now count old_sieve now_sieve old_watch now_watch
        → Steps now new first now_sieve new_sieve now_watch new_watch (Err fault)
        → ((es : List Event) → EndsNumbered {T = Unit {0}} es (Err fault)) → IsSievedRun segments taken goes sees changes old new old_sieve new_sieve old_watch new_watch (Err fault)
    unfolding run_stops
    shown_stops now new count first now_sieve new_sieve now_watch new_watch (stream.Write target) so step numbered =
        let more = takes_more so.has.es step.step.takes step.step.e now_sieve new_sieve so.sieved step.sieved in
        record {
          watched = record { run = run_stops (taken old_sieve) segments changes old now new first (stream.Write target) so.has step.step more numbered; seen = sees_more now so.has step.step.takes step.step.e now_watch new_watch more so.seen step.seen; state = state_on (taken old_sieve) segments changes old now new first (Err (stream.Write target)) so.has step.step more };
          went = goes_more so.has.es step.step.e now_sieve new_sieve so.went step.went;
        }
    shown_stops now new count first now_sieve new_sieve now_watch new_watch (stream.Run f) so step numbered =
        let more = takes_more so.has.es step.step.takes step.step.e now_sieve new_sieve so.sieved step.sieved in
        record {
          watched = record { run = run_stops (taken old_sieve) segments changes old now new first (stream.Run f) so.has step.step more numbered; seen = runs_out (taken old_sieve) changes old.state (so.has.es ++ step.step.e ∷ []) old_watch new_watch (sees_more now so.has step.step.takes step.step.e now_watch new_watch more so.seen step.seen); state = state_on (taken old_sieve) segments changes old now new first (Err (stream.Run f)) so.has step.step more ∙ ap (λ l. state_behind segments changes old.state (taken old_sieve l)) (sym (append-nil (so.has.es ++ step.step.e ∷ []))) };
          went = goes_out (so.has.es ++ step.step.e ∷ []) old_sieve new_sieve (goes_more so.has.es step.step.e now_sieve new_sieve so.went step.went);
        }
    shown_stops now new count first now_sieve new_sieve now_watch new_watch (stream.Read place) so step numbered =
        let more = takes_more so.has.es step.step.takes step.step.e now_sieve new_sieve so.sieved step.sieved in
        record {
          watched = record { run = run_stops (taken old_sieve) segments changes old now new first (stream.Read place) so.has step.step more numbered; seen = runs_out (taken old_sieve) changes old.state (so.has.es ++ step.step.e ∷ []) old_watch new_watch (sees_more now so.has step.step.takes step.step.e now_watch new_watch more so.seen step.seen); state = state_on (taken old_sieve) segments changes old now new first (Err (stream.Read place)) so.has step.step more ∙ ap (λ l. state_behind segments changes old.state (taken old_sieve l)) (sym (append-nil (so.has.es ++ step.step.e ∷ []))) };
          went = goes_out (so.has.es ++ step.step.e ∷ []) old_sieve new_sieve (goes_more so.has.es step.step.e now_sieve new_sieve so.went step.went);
        }

    pub shown_halts : (now new : Run) (count : ℕ) (first : First) (now_sieve new_sieve : S) (now_watch new_watch : T) (h : Halt) (told : StreamFault) (tap : Tap) (t : Turn) → HasShown changes old now count old_sieve now_sieve old_watch now_watch
        → IsPut segments taken goes sees changes now new first now_sieve new_sieve now_watch new_watch (Err h) → (first.index ≢ 0 → IsAt (length now.ports) first.index tap)
        → told ≡ stopped tap ((slice_index_or now.turns first.index t).done + 1 + 1) h → IsSievedRun segments taken goes sees changes old new old_sieve new_sieve old_watch new_watch (Err told)
    shown_halts now new count first now_sieve new_sieve now_watch new_watch h told tap t so put at is =
        shown_stops now new count first now_sieve new_sieve now_watch new_watch told so (subst (λ (f : StreamFault). Steps now new first now_sieve new_sieve now_watch new_watch (Err f)) (sym is) (put tap t at))
        (subst (λ (f : StreamFault). (es : List Event) → EndsNumbered {T = Unit {0}} es (Err f)) (sym is) (never_wanting tap ((slice_index_or now.turns first.index t).done + 1 + 1) h))

    pub shown_ends : (now : Run) (count : ℕ) (now_sieve : S) (now_watch : T) → HasShown changes old now count old_sieve now_sieve old_watch now_watch → ((t : Turn) (k : ℕ) → k < length now.turns → (slice_index_or now.turns k t).next ≡ None)
        → IsSievedRun segments taken goes sees changes old now old_sieve now_sieve old_watch now_watch (Ok tt)
    unfolding run_ends
    shown_ends now count now_sieve now_watch so none_left = record {
      watched = record { run = run_ends (taken old_sieve) segments changes old now so.has none_left; seen = runs_out (taken old_sieve) changes old.state so.has.es old_watch now_watch so.seen; state = so.has.state ∙ ap (λ l. state_behind segments changes old.state (taken old_sieve l)) (sym (append-nil so.has.es)) };
      went = goes_out so.has.es old_sieve now_sieve so.went;
    }

    pub shown_breaks : (now : Run) (count : ℕ) (now_sieve : S) (now_watch : T) (so : HasShown changes old now count old_sieve now_sieve old_watch now_watch) → count ≡ most_events
        → IsSievedRun segments taken goes sees changes old now old_sieve now_sieve old_watch now_watch (Err (stream.Run faults.OutOfMemory))
    unfolding run_breaks
    shown_breaks now count now_sieve now_watch so last = record {
      watched = record { run = run_breaks (taken old_sieve) segments changes old now so.has (so.many ∙ last); seen = runs_out (taken old_sieve) changes old.state so.has.es old_watch now_watch so.seen; state = so.has.state ∙ ap (λ l. state_behind segments changes old.state (taken old_sieve l)) (sym (append-nil so.has.es)) };
      went = goes_out so.has.es old_sieve now_sieve so.went;
    }
