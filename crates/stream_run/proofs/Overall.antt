-- What a run leaves in its outputs, by where it stops.
use Rattle.std.proofs.Common.{◌≡◌, ◌∙◌, refl, sym, ap, subst, ℕ, ◌+◌, ◌-◌, ◌<◌, inl, inr, List, [], ◌∷◌, ◌++◌, append-nil, append_assoc, length, length-append, map, take, slice_index_or, arith, Vec, Global, Some, None, Result, Ok, Err}
use Rattle.std.specs.Prelude.{⊤}
use Rattle.std.proofs.Math.Seq.{take-append_seam}
use Rattle.std.proofs.lemmas.Bool.{eq-eqb}
use Rattle.std.proofs.lemmas.List.{get_or-map, length-map}
use Rattle.std.specs.List.{FoldsTo}
use Rattle.pcap.specs.declared.text.header.CaptureFault.{CaptureFault}
use Rattle.pcap.specs.InTurn.{IsReading}
use Rattle.pcap.specs.Source.{Stream}
use Rattle.overlay.specs.Settings.{Settings}
use Rattle.overlay.specs.declared.settings.change.Change.{Change}
use Rattle.overlay.specs.declared.settings.change.TimedChange.{TimedChange}
use Rattle.endpoint_core.specs.Step.{State, opened}
use Rattle.endpoint_core.specs.Opened.{settings_told}
use Rattle.endpoint_core.specs.Settings.{Settings as Bridged}
use Rattle.timeline.specs.Events.{all_events}
use Rattle.timeline.specs.Faults.{faults_of}
use Rattle.timeline.specs.Inputs.{inputs, opened_captures}
use Rattle.timeline.specs.Order.{merged}
use Rattle.timeline.specs.Timeline.{Timeline, cuts_of, told, if_faultless}
use Rattle.timeline.specs.declared.event.Event.{Event}
use Rattle.timeline.specs.declared.fault.TimelineFault.{TimelineFault}
use Rattle.timeline.specs.declared.fault.TimelineFault.TheVariants as timeline
use Rattle.timeline.specs.declared.source.Tap.{Tap}
use Rattle.timeline.specs.declared.source.Tap.TheVariants.{Port, Underlay}
use Rattle.capture_run.proofs.Faults.{ports_counted}
use Rattle.capture_run.proofs.Among.{no_cuts_among, ports_counted_among}
use Rattle.capture_run.specs.Among.{by_timeline_among, cuts_among, outputs_among, with_events_among}
use Rattle.capture_run.specs.Outputs.{Outputs}
use Rattle.overlay_config.specs.Fault.{Meaning}
use Rattle.capture_run.specs.Run.{Gives, by_timeline, run}
use Rattle.capture_run.specs.Writing.{empty_outputs, with_cuts}
use Rattle.capture_run.specs.declared.fault.RunFault.{RunFault}
use Rattle.capture_run.specs.declared.fault.RunFault.TheVariants as faults
use Rattle.stream_run.specs.Begun.{AreAtFirst, OpensInTurn}
use Rattle.stream_run.specs.Coming.{EndBefore}
use Rattle.stream_run.specs.Cuts.{cuts_at}
use Rattle.stream_run.specs.Over.{BeginsIn, CanBeOpened, IsRunOverSieved, LeavesSieved, StandsSomewhere, Tells, texts_octets, texts_at, whole_records}
use Rattle.stream_run.specs.Amidst.{StandsInEvent}
use Rattle.stream_run.specs.Reached.{AreReadTo, IsReachedOverSieved, ReachesOver}
use Rattle.stream_run.specs.Sights.{Sight, sights, state_among}
use Rattle.stream_run.specs.Stage.{Drains, Events, Everything, Nothing, StandAt, StandBetween, events_at, no_texts, stage_texts}
use Rattle.stream_run.specs.Steps.{AreReadBehind, EndsIn, EndsInOrder, EndsNumbered, IsAt, IsPart, LeadsBehind, Run, StopInFront, changes_of, octets_at, source_at, texts_behind}
use Rattle.stream_run.specs.Watched.{IsWatchedOverSieved, SeesOver, sights_at, state_behind}
use Rattle.stream_run.specs.declared.fault.StreamFault.{StreamFault}
use Rattle.stream_run.specs.declared.fault.StreamFault.TheVariants as stream
use Rattle.stream_run.specs.declared.fault.Target.{Target}
use Rattle.stream_run.specs.declared.turn.Turn.{Turn}
use Rattle.stream_run.proofs.Counting.{none_in_front}
use Rattle.stream_run.proofs.Wholes.{AllStandAtEnd, IsFirstRefused, all_captures, cuts_at_end, first_refused, no_faults, whole_at_end, whole_captures}
use Rattle.segment_set.specs.Segments.{Segments}

-- ---- the texts of the first events

-- behind the same, the same is left
append_left : {A : Type 0} (xs ys zs : List A) → xs ++ ys ≡ xs ++ zs → ys ≡ zs
append_left [] ys zs is = is
append_left (x ∷ xs) ys zs is = append_left xs ys zs (let left : xs ++ ys ≡ xs ++ zs = cc in left)

first_events : (t : Timeline) (es rest : List Event) → t.events ≡ es ++ rest → take (length es) t.events ≡ es
first_events t es rest is = ap (take (length es)) is ∙ take-append_seam es rest

-- ---- what the captures tell

told_fault : (changes : List ℕ) (texts : List (Vec ℕ Global)) (text : List ℕ) (fault : TimelineFault) (others : List TimelineFault) → faults_of (inputs texts text) ≡ fault ∷ others → told changes texts text ≡ Err fault
unfolding told
told_fault changes texts text fault others is =
    let captures = opened_captures (inputs texts text) in
    ap (λ l. if_faultless l (record { events = merged (all_events changes captures); cuts = cuts_of captures })) is

told_whole : (changes : List TimedChange) (texts : List (Vec ℕ Global)) (text : List ℕ) → faults_of (inputs texts text) ≡ [] → told (map (λ (c : TimedChange). c.at) changes) texts text ≡ Ok (whole_records changes texts text)
unfolding told
told_whole changes texts text is = ap (λ l. if_faultless l (whole_records changes texts text)) is

-- an input tells the octets of its capture
tells_at : (ports : List Stream) (underlay : Stream) (texts : List (Vec ℕ Global)) (text : List ℕ) (index : ℕ) (place : Tap) → Tells ports underlay texts text → IsAt (length ports) index place
    → (source_at ports underlay place).supply.rest ≡ Some (octets_at (texts_octets texts) text place)
tells_at ports underlay texts text index (Port p) tells at =
    let there : p - 1 < length ports = omega (arith, at.1, at.2) in
    let many = ap length tells.0 in
    let also : p - 1 < length (texts_octets texts) = omega (arith, there, many, length-map ports (λ (s : Stream). s.supply.rest), length-map (texts_octets texts) (λ (octets : List ℕ). Some octets)) in
    sym (get_or-map (λ (s : Stream). s.supply.rest) ports (p - 1) underlay None there)
    ∙ ap (λ l. slice_index_or l (p - 1) None) tells.0
    ∙ get_or-map (λ (octets : List ℕ). Some octets) (texts_octets texts) (p - 1) [] None also
tells_at ports underlay texts text index Underlay tells at = tells.1

pub tells_many : (ports : List Stream) (underlay : Stream) (texts : List (Vec ℕ Global)) (text : List ℕ) → Tells ports underlay texts text → length (texts_octets texts) ≡ length ports
tells_many ports underlay texts text tells = omega (arith, ap length tells.0, length-map ports (λ (s : Stream). s.supply.rest), length-map (texts_octets texts) (λ (octets : List ℕ). Some octets))

pub tells_texts : (ports : List Stream) (underlay : Stream) (texts : List (Vec ℕ Global)) (text : List ℕ) → Tells ports underlay texts text → length ports ≡ length texts
tells_texts ports underlay texts text tells = sym (tells_many ports underlay texts text tells) ∙ length-map texts (λ (v : Vec ℕ Global). v.items)

-- all captures were opened
pub all_opened : (ports new : List Stream) (underlay new_underlay : Stream) (texts : List (Vec ℕ Global)) (text : List ℕ) → Tells ports underlay texts text → OpensInTurn ports underlay new new_underlay (Ok tt)
    → (place : Tap) (index : ℕ) → IsAt (length ports) index place → IsReading (octets_at (texts_octets texts) text place) [] (source_at new new_underlay place)
all_opened ports new underlay new_underlay texts text tells opens place index at =
    (opens place index (within place at) at).reads (octets_at (texts_octets texts) text place) (tells_at ports underlay texts text index place tells at)
  where
    within : (place : Tap) → IsAt (length ports) index place → index < length ports + 2
    within (Port p) at = omega (arith, at.0, at.2)
    within Underlay at = omega (arith, at)

-- so all of them are captures
pub all_first : (texts : List (Vec ℕ Global)) (text : List ℕ) (ports : List Stream) (underlay : Stream) → AreAtFirst (texts_octets texts) text ports underlay → CanBeOpened texts text
all_first texts text ports underlay first =
    let many : length texts ≡ length ports = sym (length-map texts (λ (v : Vec ℕ Global). v.items)) ∙ first.many in
    all_captures texts text (λ place index at. (_, (first.each place index (subst (λ n. IsAt n index place) many at)).records))

-- or the first that can't be is told
pub one_refused : (ports new : List Stream) (underlay new_underlay : Stream) (texts : List (Vec ℕ Global)) (text : List ℕ) (place : Tap) (fault : CaptureFault) → Tells ports underlay texts text
    → (opens : OpensInTurn ports underlay new new_underlay (Err (stream.Run (faults.Capture place fault)))) → IsFirstRefused texts text opens.0 place fault
one_refused ports new underlay new_underlay texts text place fault tells (index, at, begun, refused) =
    let many : length texts ≡ length ports = sym (length-map texts (λ (v : Vec ℕ Global). v.items)) ∙ tells_many ports underlay texts text tells in
    record {
      at = subst (λ n. IsAt n index place) (sym many) at;
      refused = refused (octets_at (texts_octets texts) text place) (tells_at ports underlay texts text index place tells at);
      before = λ other k lt at_k.
          let also = subst (λ n. IsAt n k other) many at_k in
          let reading = (begun other k lt also).reads (octets_at (texts_octets texts) text other) (tells_at ports underlay texts text k other tells also) in
          (_, reading.records);
    }

-- ---- refused before

-- a fault of a text or of the number of captures
abbrev pub IsRefusal : RunFault → Type 0
IsRefusal (faults.Record place n f) = ⊥
IsRefusal fault = ⊤

module _ (taken : List Event → List Event) (nothing : taken [] ≡ []) (segments : Segments) where
  stage_events : (S : Bridged) (cs : List Change) (n : ℕ) (t : Timeline) (es rest : List Event) → t.events ≡ es ++ rest
      → stage_texts taken segments S cs n t (Events (length es)) ≡ with_events_among segments cs 0 (opened S) (empty_outputs n) (taken es)
  stage_events S cs n t es rest is =
      ap (λ l. outputs_among segments S cs n (record { events = taken l; cuts = [] })) (first_events t es rest is)
      ∙ ap (with_cuts (with_events_among segments cs 0 (opened S) (empty_outputs n) (taken es))) (no_cuts_among segments)

  -- ---- where a run stops

  module _ (s : Settings) (changes : List TimedChange) (texts : List (Vec ℕ Global)) (text : List ℕ) (start new : Drains) where
    abbrev whole : Timeline
    whole = whole_records changes texts text

    -- the texts of the headers and of some events
    abbrev behind : List Event → Outputs
    behind es = texts_behind segments changes (opened (settings_told s)) (empty_outputs (length texts)) (taken es)

    -- before any event the headers stand
    behind_none : behind [] ≡ empty_outputs (length texts)
    behind_none = ap (texts_behind segments changes (opened (settings_told s)) (empty_outputs (length texts))) nothing

    texts_are : (es rest : List Event) → whole.events ≡ es ++ rest → texts_at taken segments s changes texts text (Events (length es)) ≡ behind es
    texts_are es rest is = stage_events (settings_told s) (changes_of changes) (length texts) whole es rest is

    -- before any capture was opened, or at one of which a read failed
    pub over_unopened : StandAt start new (no_texts (length texts)) → StandsSomewhere taken segments s changes texts text start new
    over_unopened at = record { stage = Nothing; amidst = tt; captures = tt; in_front = none_in_front (texts_octets texts) text; stands = at }

    -- for want of memory
    pub over_wanting : new ≡ start → StandAt start new (no_texts (length texts)) → LeavesSieved taken segments s changes texts text start new (Err (stream.Run faults.OutOfMemory))
    unfolding over_unopened
    over_wanting same at = (over_unopened at, same)

    -- at a capture that can't be opened
    pub over_refused : (index : ℕ) (place : Tap) (fault : CaptureFault) → length texts ≡ length s.ports → IsFirstRefused texts text index place fault → StandAt start new (no_texts (length texts))
        → LeavesSieved taken segments s changes texts text start new (Err (stream.Run (faults.Capture place fault)))
    over_refused index place fault many first at =
        let found = first_refused texts text index place fault first in (
          ports_counted s changes texts text (eq-eqb _ _ many)
              ∙ ap (by_timeline s changes (length texts)) (told_fault (map (λ (c : TimedChange). c.at) changes) texts text (timeline.Capture place fault) found.0 found.1),
          at,
        )

    -- among the headers
    pub over_headers : (target : Target) → CanBeOpened texts text → StandBetween start new (no_texts (length texts)) (empty_outputs (length texts)) → LeavesSieved taken segments s changes texts text start new (Err (stream.Write target))
    over_headers target can between = record { stage = Nothing; next = Events 0; comes = refl; captures = can; in_front = none_in_front (texts_octets texts) text; order = λ es rest e is at. absurd cc; stands = subst (StandBetween start new (no_texts (length texts))) (sym (texts_are [] whole.events refl ∙ behind_none)) between }

    -- the first events are these
    front_of_all : (es rest : List Event) → whole.events ≡ es ++ rest → StopInFront (texts_octets texts) text es → StopInFront (texts_octets texts) text (events_at whole (Events (length es)))
    front_of_all es rest is in_front = subst (StopInFront (texts_octets texts) text) (sym (first_events whole es rest is)) in_front

    stands_behind : (es rest : List Event) → CanBeOpened texts text → whole.events ≡ es ++ rest → StandAt start new (behind es) → StopInFront (texts_octets texts) text es → StandsSomewhere taken segments s changes texts text start new
    stands_behind es rest can is at in_front = record {
      stage = Events (length es);
      amidst = omega (arith, ap length is, length-append es rest);
      captures = can;
      in_front = front_of_all es rest is in_front;
      stands = subst (StandAt start new) (sym (texts_are es rest is)) at;
    }

    -- at the first record of a capture
    pub over_firsts : (fault : StreamFault) (turns : List Turn) (ports : List Stream) (underlay : Stream) → BeginsIn {T = Unit {0}} (texts_octets texts) text turns ports underlay (Err fault) → CanBeOpened texts text → StandAt start new (empty_outputs (length texts))
        → LeavesSieved taken segments s changes texts text start new (Err fault)
    over_firsts (stream.Run (faults.Record place n f)) turns ports underlay h can at =
        record { k = 0; most = omega arith; openings = can; faulty = h.0; in_front = none_in_front (texts_octets texts) text; before = inl (refl, h.1); stands = subst (StandAt start new) (sym (texts_are [] whole.events refl ∙ behind_none)) at }
    over_firsts (stream.Run (faults.Settings f)) turns ports underlay h can at = absurd h
    over_firsts (stream.Run (faults.Changes f)) turns ports underlay h can at = absurd h
    over_firsts (stream.Run faults.PortCount) turns ports underlay h can at = absurd h
    over_firsts (stream.Run (faults.Capture place f)) turns ports underlay h can at = absurd h
    over_firsts (stream.Run faults.OutOfMemory) turns ports underlay h can at = absurd h
    over_firsts (stream.Read place) turns ports underlay h can at = stands_behind [] whole.events can refl (subst (StandAt start new) (sym behind_none) at) (none_in_front (texts_octets texts) text)
    over_firsts (stream.Write target) turns ports underlay h can at = absurd h

    -- the texts of the event behind some others stand in order
    abbrev pub Ordered : List Event → List Event → Result (Unit {0}) StreamFault → Type 0
    Ordered es more result = EndsInOrder taken segments changes (opened (settings_told s)) start new (empty_outputs (length texts)) es more result

    in_order : (target : Target) (es more rest fs left : List Event) (e f : Event) → whole.events ≡ es ++ (more ++ rest) → more ≡ e ∷ [] → Ordered es more (Err (stream.Write target))
        → whole.events ≡ fs ++ f ∷ left → Events (length es) ≡ Events (length fs)
        → StandsInEvent (changes_of changes) start new (length (taken fs) + 1) (state_among segments (changes_of changes) (opened (settings_told s)) (taken fs)) (texts_at taken segments s changes texts text (Events (length es))) f
    in_order target es more rest fs left e f is one ordered also there =
        let size : length es ≡ length fs = cc in
        let same : es ≡ fs = sym (first_events whole es (more ++ rest) is) ∙ ap (λ n. take n whole.events) size ∙ first_events whole fs (f ∷ left) also in
        let behind_es : es ++ (e ∷ rest) ≡ es ++ (f ∷ left) = ap (λ l. es ++ (l ++ rest)) (sym one) ∙ sym is ∙ also ∙ ap (λ l. l ++ f ∷ left) (sym same) in
        let same_left : e ∷ rest ≡ f ∷ left = append_left es (e ∷ rest) (f ∷ left) behind_es in
        let event : e ≡ f = cc in
        let stands = ordered f (one ∙ ap (λ x. x ∷ []) event) in
        subst (λ l. StandsInEvent (changes_of changes) start new (length (taken l) + 1) (state_among segments (changes_of changes) (opened (settings_told s)) (taken l)) (texts_at taken segments s changes texts text (Events (length es))) f) same
        (subst (λ o. StandsInEvent (changes_of changes) start new (length (taken es) + 1) (state_among segments (changes_of changes) (opened (settings_told s)) (taken es)) o f) (sym (texts_are es (more ++ rest) is)) stands)

    -- among the events
    pub over_events : (fault : StreamFault) (run : Run) (es more rest : List Event) → whole.events ≡ es ++ (more ++ rest) → EndsIn {T = Unit {0}} (texts_octets texts) text es rest run (Err fault) → IsPart {T = Unit {0}} more (Err fault)
        → LeadsBehind {T = Unit {0}} taken segments changes (opened (settings_told s)) start new (empty_outputs (length texts)) es more (Err fault) → Ordered es more (Err fault) → StopInFront (texts_octets texts) text (es ++ more) → EndsNumbered {T = Unit {0}} es (Err fault) → CanBeOpened texts text → LeavesSieved taken segments s changes texts text start new (Err fault)
    unfolding stands_behind
    over_events (stream.Run (faults.Record place n f)) run es more rest is h part at ordered in_front numbered can = record {
      k = length es;
      most = omega (arith, ap length is, length-append es (more ++ rest));
      openings = can;
      faulty = h.0;
      in_front = front_of_all es (more ++ rest) is (subst (StopInFront (texts_octets texts) text) (ap (λ l. es ++ l) part ∙ append-nil es) in_front);
      before = inr (subst (EndBefore place n) (sym (first_events whole es (more ++ rest) is)) h.1);
      stands = subst (StandAt start new) (sym (texts_are es (more ++ rest) is)) at;
    }
    over_events (stream.Run (faults.Settings f)) run es more rest is h part at ordered in_front numbered can = absurd h
    over_events (stream.Run (faults.Changes f)) run es more rest is h part at ordered in_front numbered can = absurd h
    over_events (stream.Run faults.PortCount) run es more rest is h part at ordered in_front numbered can = absurd h
    over_events (stream.Run (faults.Capture place f)) run es more rest is h part at ordered in_front numbered can = absurd h
    over_events (stream.Run faults.OutOfMemory) run es more rest is h part at ordered in_front numbered can =
        (stands_behind es (more ++ rest) can is at (subst (StopInFront (texts_octets texts) text) (ap (λ l. es ++ l) part ∙ append-nil es) in_front), numbered)
    over_events (stream.Read place) run es more rest is h part at ordered in_front numbered can = stands_behind es (more ++ rest) can is at (subst (StopInFront (texts_octets texts) text) (ap (λ l. es ++ l) part ∙ append-nil es) in_front)
    over_events (stream.Write target) run es more rest is h part at ordered in_front numbered can =
        let one : length more ≡ 1 = ap length part.1 in
        let all : whole.events ≡ (es ++ more) ++ rest = is ∙ sym (append_assoc es more rest) in
        record {
          stage = Events (length es);
          next = Events (length (es ++ more));
          comes = (omega (arith, one, length-append es more), omega (arith, ap length all, length-append (es ++ more) rest));
          captures = can;
          in_front = front_of_all (es ++ more) rest all in_front;
          order = λ fs left f also there. in_order target es more rest fs left part.0 f is part.1 ordered also there;
          stands = subst (λ o. StandBetween start new o (texts_at taken segments s changes texts text (Events (length (es ++ more))))) (sym (texts_are es (more ++ rest) is))
              (subst (StandBetween start new (behind es)) (sym (texts_are (es ++ more) rest all)) at.0);
        }

    -- among the lines of the cut captures
    pub over_cuts : (target : Target) (es : List Event) (turns : List Turn) (ports : List Stream) (underlay : Stream) → whole.events ≡ es → AllStandAtEnd texts text turns ports underlay
        → StopInFront (texts_octets texts) text es → StandBetween start new (behind es) (with_cuts (behind es) (cuts_among segments (cuts_at ports underlay turns))) → LeavesSieved taken segments s changes texts text start new (Err (stream.Write target))
    over_cuts target es turns ports underlay is ends in_front between =
        let all : texts_at taken segments s changes texts text Everything ≡ with_cuts (behind es) (cuts_among segments (cuts_at ports underlay turns)) =
        ap (λ l. with_cuts (behind l) (cuts_among segments whole.cuts)) is
        ∙ ap (λ l. with_cuts (behind es) (cuts_among segments l)) (cuts_at_end texts text turns ports underlay ends) in
        record {
          stage = Events (length es);
          next = Everything;
          comes = ap length (sym is);
          captures = (whole_captures texts text (whole_at_end texts text turns ports underlay ends), no_faults texts text (whole_at_end texts text turns ports underlay ends));
          in_front = subst (StopInFront (texts_octets texts) text) (sym is) in_front;
          order = λ fs left f also there. let size : length es ≡ length fs = cc in absurd (omega (arith, size, ap length (sym is ∙ also), length-append fs (f ∷ left)));
          stands = subst (λ o. StandBetween start new o (texts_at taken segments s changes texts text Everything)) (sym (texts_are es [] (is ∙ sym (append-nil es))))
              (subst (StandBetween start new (behind es)) (sym all) between);
        }

    -- nowhere
    pub over_all : (es : List Event) (turns : List Turn) (ports : List Stream) (underlay : Stream) → length texts ≡ length s.ports → whole.events ≡ es → AllStandAtEnd texts text turns ports underlay
        → StandAt start new (with_cuts (behind es) (cuts_among segments (cuts_at ports underlay turns))) → LeavesSieved taken segments s changes texts text start new (Ok tt)
    over_all es turns ports underlay many is ends at = (
      ports_counted_among segments s changes texts text (eq-eqb _ _ many)
          ∙ ap (by_timeline_among segments s changes (length texts)) (told_whole changes texts text (no_faults texts text (whole_at_end texts text turns ports underlay ends))),
      subst (StandAt start new)
          (ap (λ l. with_cuts (behind l) (cuts_among segments (cuts_at ports underlay turns))) (sym is) ∙ ap (λ l. with_cuts (behind whole.events) (cuts_among segments l)) (sym (cuts_at_end texts text turns ports underlay ends))) at,
    )

    -- ---- how far the captures are read

    abbrev Reaches : List Stream → Stream → Result (Unit {0}) StreamFault → Type 0
    Reaches ports underlay result = ReachesOver taken segments s changes texts text start new ports underlay result

    reads_first : (ports : List Stream) (underlay : Stream) (result : Result (Unit {0}) StreamFault) (es rest : List Event) → whole.events ≡ es ++ rest
        → AreReadBehind (texts_octets texts) text es ports underlay result → AreReadTo changes texts text (Events (length es)) ports underlay result
    reads_first ports underlay result es rest is read =
        subst (λ l. AreReadBehind (texts_octets texts) text l ports underlay result) (sym (first_events whole es rest is)) read

    pub reach_wanting : (ports : List Stream) (underlay : Stream) → new ≡ start → StandAt start new (no_texts (length texts)) → Reaches ports underlay (Err (stream.Run faults.OutOfMemory))
    unfolding over_unopened
    reach_wanting ports underlay same at = (over_unopened at, same, inl refl)

    pub reach_unread : (ports : List Stream) (underlay : Stream) (place : Tap) → StandAt start new (no_texts (length texts)) → Reaches ports underlay (Err (stream.Read place))
    unfolding over_unopened
    reach_unread ports underlay place at = (over_unopened at, inl refl)

    pub reach_headers : (ports : List Stream) (underlay : Stream) (target : Target) → CanBeOpened texts text → StandBetween start new (no_texts (length texts)) (empty_outputs (length texts)) → Reaches ports underlay (Err (stream.Write target))
    unfolding over_headers
    reach_headers ports underlay target can between = (over_headers target can between, inl refl)

    pub reach_firsts : (fault : StreamFault) (turns : List Turn) (ports : List Stream) (underlay : Stream) → BeginsIn {T = Unit {0}} (texts_octets texts) text turns ports underlay (Err fault) → CanBeOpened texts text → StandAt start new (empty_outputs (length texts))
        → Reaches ports underlay (Err fault)
    unfolding over_firsts stands_behind
    reach_firsts (stream.Run (faults.Record place n f)) turns ports underlay h can at = (over_firsts (stream.Run (faults.Record place n f)) turns ports underlay h can at, inl refl)
    reach_firsts (stream.Run (faults.Settings f)) turns ports underlay h can at = absurd h
    reach_firsts (stream.Run (faults.Changes f)) turns ports underlay h can at = absurd h
    reach_firsts (stream.Run faults.PortCount) turns ports underlay h can at = absurd h
    reach_firsts (stream.Run (faults.Capture place f)) turns ports underlay h can at = absurd h
    reach_firsts (stream.Run faults.OutOfMemory) turns ports underlay h can at = absurd h
    reach_firsts (stream.Read place) turns ports underlay h can at = (over_firsts (stream.Read place) turns ports underlay h can at, inl refl)
    reach_firsts (stream.Write target) turns ports underlay h can at = absurd h

    pub reach_events : (fault : StreamFault) (run : Run) (es more rest : List Event) → whole.events ≡ es ++ (more ++ rest) → EndsIn {T = Unit {0}} (texts_octets texts) text es rest run (Err fault) → IsPart {T = Unit {0}} more (Err fault)
        → LeadsBehind {T = Unit {0}} taken segments changes (opened (settings_told s)) start new (empty_outputs (length texts)) es more (Err fault) → Ordered es more (Err fault) → StopInFront (texts_octets texts) text (es ++ more)
        → EndsNumbered {T = Unit {0}} es (Err fault) → CanBeOpened texts text → AreReadBehind {T = Unit {0}} (texts_octets texts) text es run.ports run.underlay (Err fault) → Reaches run.ports run.underlay (Err fault)
    unfolding over_events stands_behind
    reach_events (stream.Run (faults.Record place n f)) run es more rest is h part at ordered in_front numbered can read =
        (over_events (stream.Run (faults.Record place n f)) run es more rest is h part at ordered in_front numbered can, inr (reads_first run.ports run.underlay (Err (stream.Run (faults.Record place n f))) es (more ++ rest) is read))
    reach_events (stream.Run (faults.Settings f)) run es more rest is h part at ordered in_front numbered can read = absurd h
    reach_events (stream.Run (faults.Changes f)) run es more rest is h part at ordered in_front numbered can read = absurd h
    reach_events (stream.Run faults.PortCount) run es more rest is h part at ordered in_front numbered can read = absurd h
    reach_events (stream.Run (faults.Capture place f)) run es more rest is h part at ordered in_front numbered can read = absurd h
    reach_events (stream.Run faults.OutOfMemory) run es more rest is h part at ordered in_front numbered can read =
        let at = over_events (stream.Run faults.OutOfMemory) run es more rest is h part at ordered in_front numbered can in
        (at.0, at.1, inr (reads_first run.ports run.underlay (Err (stream.Run faults.OutOfMemory)) es (more ++ rest) is read))
    reach_events (stream.Read place) run es more rest is h part at ordered in_front numbered can read =
        (over_events (stream.Read place) run es more rest is h part at ordered in_front numbered can, inr (reads_first run.ports run.underlay (Err (stream.Read place)) es (more ++ rest) is read))
    reach_events (stream.Write target) run es more rest is h part at ordered in_front numbered can read =
        (over_events (stream.Write target) run es more rest is h part at ordered in_front numbered can, inr (reads_first run.ports run.underlay (Err (stream.Write target)) es (more ++ rest) is read))

    pub reach_cuts : (target : Target) (es : List Event) (turns : List Turn) (ports : List Stream) (underlay : Stream) → whole.events ≡ es → AllStandAtEnd texts text turns ports underlay
        → StopInFront (texts_octets texts) text es → StandBetween start new (behind es) (with_cuts (behind es) (cuts_among segments (cuts_at ports underlay turns)))
        → AreReadBehind {T = Unit {0}} (texts_octets texts) text es ports underlay (Err (stream.Write target)) → Reaches ports underlay (Err (stream.Write target))
    unfolding over_cuts
    reach_cuts target es turns ports underlay is ends in_front between read =
        (over_cuts target es turns ports underlay is ends in_front between, inr (reads_first ports underlay (Err (stream.Write target)) es [] (is ∙ sym (append-nil es)) read))

    -- ---- what was seen

    module _ {T : Type 0} (sees : T → Sight → T → Type 0) (ends : T → State → T → Type 0) (old_watch : T) where
      -- these events were seen
      abbrev Sees : List Event → T → Type 0
      Sees es new_watch = FoldsTo sees old_watch (sights segments (changes_of changes) (opened (settings_told s)) 0 (taken es)) new_watch

      -- of no event nothing is seen
      sees_none : Sees [] old_watch
      sees_none = subst (λ l. FoldsTo sees old_watch (sights segments (changes_of changes) (opened (settings_told s)) 0 l) old_watch) (sym nothing) refl

      abbrev Seen : T → Result (Unit {0}) StreamFault → Type 0
      Seen new_watch result = SeesOver taken segments sees ends s changes texts text start new old_watch new_watch result

      -- they are the first ones
      sees_first : (es rest : List Event) (k : ℕ) (new_watch : T) → whole.events ≡ es ++ rest → k ≡ length es → Sees es new_watch → FoldsTo sees old_watch (sights_at taken segments s changes texts text (Events k)) new_watch
      sees_first es rest k new_watch is at h = subst (λ l. Sees l new_watch) (sym (ap (λ k. take k whole.events) at ∙ first_events whole es rest is)) h

      -- nothing was
      pub seen_wanting : new ≡ start → StandAt start new (no_texts (length texts)) → Seen old_watch (Err (stream.Run faults.OutOfMemory))
      unfolding over_unopened
      seen_wanting same at = (over_unopened at, same, sees_none)

      pub seen_unread : (place : Tap) → StandAt start new (no_texts (length texts)) → Seen old_watch (Err (stream.Read place))
      unfolding over_unopened
      seen_unread place at = (over_unopened at, sees_none)

      pub seen_headers : (target : Target) → CanBeOpened texts text → StandBetween start new (no_texts (length texts)) (empty_outputs (length texts)) → Seen old_watch (Err (stream.Write target))
      unfolding over_headers
      seen_headers target can between = (over_headers target can between, sees_none)

      pub seen_firsts : (fault : StreamFault) (turns : List Turn) (ports : List Stream) (underlay : Stream) → BeginsIn {T = Unit {0}} (texts_octets texts) text turns ports underlay (Err fault) → CanBeOpened texts text → StandAt start new (empty_outputs (length texts))
          → Seen old_watch (Err fault)
      unfolding over_firsts stands_behind
      seen_firsts (stream.Run (faults.Record place n f)) turns ports underlay h can at = (over_firsts (stream.Run (faults.Record place n f)) turns ports underlay h can at, sees_none)
      seen_firsts (stream.Run (faults.Settings f)) turns ports underlay h can at = absurd h
      seen_firsts (stream.Run (faults.Changes f)) turns ports underlay h can at = absurd h
      seen_firsts (stream.Run faults.PortCount) turns ports underlay h can at = absurd h
      seen_firsts (stream.Run (faults.Capture place f)) turns ports underlay h can at = absurd h
      seen_firsts (stream.Run faults.OutOfMemory) turns ports underlay h can at = absurd h
      seen_firsts (stream.Read place) turns ports underlay h can at = (over_firsts (stream.Read place) turns ports underlay h can at, sees_none)
      seen_firsts (stream.Write target) turns ports underlay h can at = absurd h

      -- the first events were, and where a write failed one more
      pub seen_events : (fault : StreamFault) (run : Run) (es more rest : List Event) (new_watch : T) → whole.events ≡ es ++ (more ++ rest) → EndsIn {T = Unit {0}} (texts_octets texts) text es rest run (Err fault)
          → IsPart {T = Unit {0}} more (Err fault) → LeadsBehind {T = Unit {0}} taken segments changes (opened (settings_told s)) start new (empty_outputs (length texts)) es more (Err fault) → Ordered es more (Err fault) → StopInFront (texts_octets texts) text (es ++ more) → EndsNumbered {T = Unit {0}} es (Err fault) → CanBeOpened texts text → Sees (es ++ more) new_watch → Seen new_watch (Err fault)
      unfolding over_events stands_behind
      seen_events (stream.Run (faults.Record place n f)) run es more rest new_watch is h part at ordered in_front numbered can seen = (
        over_events (stream.Run (faults.Record place n f)) run es more rest is h part at ordered in_front numbered can,
        sees_first (es ++ more) rest _ new_watch (is ∙ sym (append_assoc es more rest)) (omega (arith, ap length part, length-append es more)) seen,
      )
      seen_events (stream.Run (faults.Settings f)) run es more rest new_watch is h part at ordered in_front numbered can seen = absurd h
      seen_events (stream.Run (faults.Changes f)) run es more rest new_watch is h part at ordered in_front numbered can seen = absurd h
      seen_events (stream.Run faults.PortCount) run es more rest new_watch is h part at ordered in_front numbered can seen = absurd h
      seen_events (stream.Run (faults.Capture place f)) run es more rest new_watch is h part at ordered in_front numbered can seen = absurd h
      seen_events (stream.Run faults.OutOfMemory) run es more rest new_watch is h part at ordered in_front numbered can seen =
          let at = over_events (stream.Run faults.OutOfMemory) run es more rest is h part at ordered in_front numbered can in (
            at.0,
            at.1,
            sees_first (es ++ more) rest _ new_watch (is ∙ sym (append_assoc es more rest)) (omega (arith, ap length part, length-append es more)) seen,
          )
      seen_events (stream.Read place) run es more rest new_watch is h part at ordered in_front numbered can seen = (
        over_events (stream.Read place) run es more rest is h part at ordered in_front numbered can,
        sees_first (es ++ more) rest _ new_watch (is ∙ sym (append_assoc es more rest)) (omega (arith, ap length part, length-append es more)) seen,
      )
      seen_events (stream.Write target) run es more rest new_watch is h part at ordered in_front numbered can seen = (
        over_events (stream.Write target) run es more rest is h part at ordered in_front numbered can,
        sees_first (es ++ more) rest _ new_watch (is ∙ sym (append_assoc es more rest)) (omega (arith, ap length part.1, length-append es more)) seen,
      )

      -- all events were, but not the end
      pub seen_cuts : (target : Target) (es : List Event) (turns : List Turn) (ports : List Stream) (underlay : Stream) (new_watch : T) → whole.events ≡ es → AllStandAtEnd texts text turns ports underlay
          → StopInFront (texts_octets texts) text es → StandBetween start new (behind es) (with_cuts (behind es) (cuts_among segments (cuts_at ports underlay turns))) → Sees es new_watch → Seen new_watch (Err (stream.Write target))
      unfolding over_cuts
      seen_cuts target es turns ports underlay new_watch is at_end in_front between seen = (
        over_cuts target es turns ports underlay is at_end in_front between,
        subst (λ l. Sees l new_watch) (sym is) seen,
      )

      -- all events were, and then the end
      pub seen_all : (es : List Event) (last new_watch : T) → whole.events ≡ es → Sees es last → ends last (state_behind segments changes (opened (settings_told s)) (taken es)) new_watch → Seen new_watch (Ok tt)
      seen_all es last new_watch is seen ended = (
        last,
        subst (λ l. Sees l last) (sym is) seen,
        subst (λ l. ends last (state_behind segments changes (opened (settings_told s)) (taken l)) new_watch) (sym is) ended,
      )

  module _ (texts : List (Vec ℕ Global)) (text : List ℕ) (start : Drains) where
    -- the texts, or the number of captures, are refused, or memory was
    pub over_refusal : (s : Meaning Settings) (c : Meaning (List TimedChange)) (fault : RunFault) → IsRefusal fault → Gives (Err fault) (run s c texts text) → StandAt start start (no_texts (length texts))
        → IsRunOverSieved taken segments s c texts text start start (Err (stream.Run fault))
    over_refusal (Ok s) (Ok changes) (faults.Settings f) refusal gives at = (gives, at)
    over_refusal (Ok s) (Err fault) (faults.Settings f) refusal gives at = (gives, at)
    over_refusal (Err fault) c (faults.Settings f) refusal gives at = (gives, at)
    over_refusal (Ok s) (Ok changes) (faults.Changes f) refusal gives at = (gives, at)
    over_refusal (Ok s) (Err fault) (faults.Changes f) refusal gives at = (gives, at)
    over_refusal (Err fault) c (faults.Changes f) refusal gives at = (gives, at)
    over_refusal (Ok s) (Ok changes) faults.PortCount refusal gives at = (gives, at)
    over_refusal (Ok s) (Err fault) faults.PortCount refusal gives at = (gives, at)
    over_refusal (Err fault) c faults.PortCount refusal gives at = (gives, at)
    over_refusal (Ok s) (Ok changes) (faults.Capture place f) refusal gives at = (gives, at)
    over_refusal (Ok s) (Err fault) (faults.Capture place f) refusal gives at = (gives, at)
    over_refusal (Err fault) c (faults.Capture place f) refusal gives at = (gives, at)
    over_refusal s c (faults.Record place n f) refusal gives at = absurd refusal
    over_refusal (Ok s) (Ok changes) faults.OutOfMemory refusal gives at = over_wanting s changes texts text start start refl at
    over_refusal (Ok s) (Err fault) faults.OutOfMemory refusal gives at = at
    over_refusal (Err fault) c faults.OutOfMemory refusal gives at = at

    -- and nothing was seen
    pub seen_refusal : {T : Type 0} (sees : T → Sight → T → Type 0) (ends : T → State → T → Type 0) (watch : T) (s : Meaning Settings) (c : Meaning (List TimedChange)) (fault : RunFault) → IsRefusal fault → StandAt start start (no_texts (length texts))
        → IsWatchedOverSieved taken segments sees ends s c texts text start start watch watch (Err (stream.Run fault))
    seen_refusal sees ends watch (Ok s) (Ok changes) (faults.Settings f) refusal at = refl
    seen_refusal sees ends watch (Ok s) (Ok changes) (faults.Changes f) refusal at = refl
    seen_refusal sees ends watch (Ok s) (Ok changes) faults.PortCount refusal at = refl
    seen_refusal sees ends watch (Ok s) (Ok changes) (faults.Capture place f) refusal at = refl
    seen_refusal sees ends watch (Ok s) (Ok changes) (faults.Record place n f) refusal at = absurd refusal
    seen_refusal sees ends watch (Ok s) (Ok changes) faults.OutOfMemory refusal at = seen_wanting s changes texts text start start sees ends watch refl at
    seen_refusal sees ends watch (Ok s) (Err f) fault refusal at = refl
    seen_refusal sees ends watch (Err f) c fault refusal at = refl

    -- and so nothing is said of how far the captures are read
    pub reach_refusal : (s : Meaning Settings) (c : Meaning (List TimedChange)) (ports : List Stream) (underlay : Stream) (fault : RunFault) → IsRefusal fault → StandAt start start (no_texts (length texts))
        → IsReachedOverSieved taken segments s c texts text start start ports underlay (Err (stream.Run fault))
    reach_refusal (Ok s) (Ok changes) ports underlay (faults.Settings f) refusal at = tt
    reach_refusal (Ok s) (Ok changes) ports underlay (faults.Changes f) refusal at = tt
    reach_refusal (Ok s) (Ok changes) ports underlay faults.PortCount refusal at = tt
    reach_refusal (Ok s) (Ok changes) ports underlay (faults.Capture place f) refusal at = tt
    reach_refusal (Ok s) (Ok changes) ports underlay (faults.Record place n f) refusal at = absurd refusal
    reach_refusal (Ok s) (Ok changes) ports underlay faults.OutOfMemory refusal at = reach_wanting s changes texts text start start ports underlay refl at
    reach_refusal (Ok s) (Err f) ports underlay fault refusal at = tt
    reach_refusal (Err f) c ports underlay fault refusal at = tt
