-- What the outputs of a run over streams hold, and two runs of which either may have stopped.
use Rattle.std.proofs.Common.{◌≡◌, ◌∙◌, refl, sym, ap, subst, ℕ, ◌==◌, Bool, true, false, cond, List, [], ◌∷◌, ◌++◌, map, length, take, drop, Ok, Err, inl, inr}
use Rattle.std.specs.Prelude.{◌⊎◌}
use Rattle.std.proofs.lemmas.List.{map-append, take-append-drop, append-nil}
use Rattle.pcap.specs.declared.text.record.RecordFault.{RecordFault}
use Rattle.timeline.specs.Events.{all_events}
use Rattle.timeline.specs.Faults.{faults_of}
use Rattle.timeline.specs.Inputs.{inputs, opened_captures}
use Rattle.timeline.specs.Order.{IsRising}
use Rattle.timeline.specs.Timeline.{Timeline, told, if_faultless}
use Rattle.timeline.specs.declared.event.Event.{Event as Happens}
use Rattle.timeline.specs.declared.fault.TimelineFault.{TimelineFault}
use Rattle.timeline.specs.declared.source.Source.{Source}
use Rattle.timeline.specs.declared.source.Tap.{Tap}
use Rattle.timeline.proofs.Orders.{rising_merged}
use Rattle.overlay.specs.Settings.{Settings as Told}
use Rattle.overlay.specs.declared.settings.change.TimedChange.{TimedChange}
use Rattle.endpoint_core.specs.Opened.{settings_told}
use Rattle.endpoint_core.specs.Event as event
use Rattle.capture_run.specs.Among.{by_timeline_among, outputs_among, run_among}
use Rattle.capture_run.specs.Outputs.{Outputs, event_of}
use Rattle.capture_run.specs.declared.fault.RunFault.TheVariants as faults
use Rattle.capture_run.proofs.Among.{all_outputs}
use Rattle.capture_run.proofs.Growing.{rising_events}
use Rattle.segment_set.specs.Segments.{All}
use Rattle.stream_run.specs.Over.{IsRunOver, texts_at}
use Rattle.stream_run.specs.Sieved.{all_taken}
use Rattle.stream_run.specs.Stage.{Stage, Nothing, Events, Everything, Drains, StandAt, no_texts}
use Rattle.stream_run.specs.declared.fault.StreamFault.TheVariants as stream
use Rattle.noninterference.specs.Coming.{Inputs, changes_of, coming}
use Rattle.noninterference.specs.Leaving.{rows_of, Departure, departures, departures_in, lines_in, records_in, capture_at}
use Rattle.noninterference.proofs.Merging.{merged-rises, merged-turns}
use Rattle.noninterference.proofs.Octets.{texts-captures, texts-decisions}
use Rattle.noninterference.proofs.Turns.{Before, same_by_source}
use Rattle.tenants_apart.specs.Own.{Needs, IsEnough, own_events, room_replies, IsFrontOf, IsOneFront}
use Rattle.tenants_apart.specs.Runs.{whole, AreFirst, Hold}
use Rattle.tenants_apart.specs.Texts.{TellAlike, own_coming, replies_of}
use Rattle.tenants_apart.proofs.Captures.{records_of, records-append, records_by, turn-own}
use Rattle.tenants_apart.proofs.Stopped.{leaving-stopped, lines-stopped}
use Rattle.tenants_apart.proofs.Told.{part-told}

-- ---- what is left

first-rises : (least : ℕ) (es fs : List Happens) → IsRising least (es ++ fs) → IsRising least es
first-rises least [] fs h = tt
first-rises least (e ∷ es) fs h = (h.0, first-rises e.moment es fs h.1)

whole-rises : (x : Inputs) → IsRising 0 (whole x).events
whole-rises x = rising_merged (all_events (map (λ (c : TimedChange). c.at) x.changes) (opened_captures (inputs x.ports x.underlay)))

events-rise : (l : Timeline) (x : Inputs) → AreFirst l x → IsRising 0 l.events
events-rise l x first = first-rises 0 l.events first.later (subst (IsRising 0) (sym first.events) (whole-rises x))

-- where the texts of some events stand
holding : (s : Told) (x : Inputs) (l : Timeline) (old new : Drains) → AreFirst l x → StandAt old new (outputs_among All (settings_told s) (changes_of x) (length x.ports) l) → Hold s x l old new
holding s x l old new first stand =
    let rising = events-rise l x first in
    let up = rising_events (changes_of x) 0 l.events rising in
    let is = all_outputs (settings_told s) (changes_of x) (length x.ports) l rising in
    record {
      texts = outputs_among All (settings_told s) (changes_of x) (length x.ports) l;
      stand = stand;
      captures = λ output of_run. ap (capture_at output) is ∙ texts-captures (settings_told s) (changes_of x) (length x.ports) l up output of_run;
      decisions = ap (λ (o : Outputs). o.decisions) is ∙ texts-decisions (settings_told s) (changes_of x) (length x.ports) l up;
    }

some-stand : (s : Told) (x : Inputs) (old new : Drains) (k : ℕ) → StandAt old new (texts_at all_taken All s x.changes x.ports x.underlay (Events k))
    → (l : Timeline) × AreFirst l x × Hold s x l old new
some-stand s x old new k h =
    let l : Timeline = record { events = take k (whole x).events; cuts = [] } in
    let first : AreFirst l x = record { later = drop k (whole x).events; events = take-append-drop k (whole x).events; cuts = inl refl } in
    (l, first, holding s x l old new first h)

all-stand : (s : Told) (x : Inputs) (old new : Drains) → StandAt old new (texts_at all_taken All s x.changes x.ports x.underlay Everything)
    → (l : Timeline) × AreFirst l x × Hold s x l old new
all-stand s x old new h =
    let first : AreFirst (whole x) x = record { later = []; events = append-nil (whole x).events; cuts = inr (refl, refl) } in
    (whole x, first, holding s x (whole x) old new first h)

-- all captures were read to their ends
found_by : (s : Told) (changes : List TimedChange) (n : ℕ) (b : Bool) (t : Timeline) (others : List TimelineFault) (found : Outputs)
    → cond b (by_timeline_among All s changes n (if_faultless others t)) (Err faults.PortCount) ≡ Ok found → outputs_among All (settings_told s) (map (λ (c : TimedChange). c.change) changes) n t ≡ found
found_by s changes n true t [] found h = cc
found_by s changes n true t (fault ∷ others) found h = absurd cc
found_by s changes n false t others found h = absurd cc

whole-found : (s : Told) (x : Inputs) (found : Outputs) → run_among All (Ok s) (Ok x.changes) x.ports x.underlay ≡ Ok found
    → outputs_among All (settings_told s) (changes_of x) (length x.ports) (whole x) ≡ found
unfolding told
whole-found s x found h = found_by s x.changes (length x.ports) (length x.ports == length s.ports) (whole x) (faults_of (inputs x.ports x.underlay)) found h

pub left-ended : (s : Told) (x : Inputs) (old new : Drains) → IsRunOver (Ok s) (Ok x.changes) x.ports x.underlay old new (Ok tt) → (l : Timeline) × AreFirst l x × Hold s x l old new
left-ended s x old new h = all-stand s x old new (subst (StandAt old new) (sym (whole-found s x h.0 h.1)) h.2)

pub left-at_a_fault : (s : Told) (x : Inputs) (old new : Drains) (place : Tap) (n : ℕ) (fault : RecordFault)
    → IsRunOver (Ok s) (Ok x.changes) x.ports x.underlay old new (Err (stream.Run (faults.Record place n fault))) → (l : Timeline) × AreFirst l x × Hold s x l old new
left-at_a_fault s x old new place n fault h = some-stand s x old new h.k h.stands

by_stage : (s : Told) (x : Inputs) (old new : Drains) (stage : Stage) → StandAt old new (texts_at all_taken All s x.changes x.ports x.underlay stage)
    → StandAt old new (no_texts (length x.ports)) ⊎ ((l : Timeline) × AreFirst l x × Hold s x l old new)
by_stage s x old new Nothing h = inl h
by_stage s x old new (Events k) h = inr (some-stand s x old new k h)
by_stage s x old new Everything h = inr (all-stand s x old new h)

pub left-at_a_read : (s : Told) (x : Inputs) (old new : Drains) (place : Tap) → IsRunOver (Ok s) (Ok x.changes) x.ports x.underlay old new (Err (stream.Read place))
    → StandAt old new (no_texts (length x.ports)) ⊎ ((l : Timeline) × AreFirst l x × Hold s x l old new)
left-at_a_read s x old new place h = by_stage s x old new h.stage h.stands

-- ---- two runs

records-front : (output : Tap) (ds es : List Departure) → IsFrontOf ds es → IsFrontOf (records_of output ds) (records_of output es)
records-front output ds es front = (records_of output front.0, sym (records-append output ds front.0) ∙ ap (records_of output) front.1)

records-one : (output : Tap) (ds es : List Departure) → IsOneFront ds es → IsOneFront (records_of output ds) (records_of output es)
records-one output ds es (inl front) = inl (records-front output ds es front)
records-one output ds es (inr front) = inr (records-front output es ds front)

-- what comes behind the first events
abbrev behind : (x : Inputs) (l : Timeline) → AreFirst l x → List event.Event
behind x l first = map (event_of (changes_of x)) first.later

whole-coming : (x : Inputs) (l : Timeline) (first : AreFirst l x) → coming x l ++ behind x l first ≡ coming x (whole x)
whole-coming x l first = sym (map-append (event_of (changes_of x)) l.events first.later) ∙ ap (map (event_of (changes_of x))) first.events

coming-rising : (x : Inputs) (l : Timeline) (first : AreFirst l x) → event.IsRising 0 (coming x l ++ behind x l first)
coming-rising x l first = subst (event.IsRising 0) (sym (whole-coming x l first)) (merged-rises (changes_of x) (map (λ (c : TimedChange). c.at) x.changes) x.ports x.underlay)

module _ (vid : ℕ) (needs : Needs) (s t : Told) (x y : Inputs) (l m : Timeline) (first : AreFirst l x) (other : AreFirst m y)
    (enough : IsEnough vid needs (settings_told s) (coming x (whole x))) (alike : TellAlike vid needs s t)
    (same : (source : Source) → own_coming vid needs s x (whole x) source ≡ own_coming vid needs t y (whole y) source) (replies : replies_of vid s x (whole x) ≡ replies_of vid t y (whole y)) where
  own-same : own_events vid needs (settings_told s) (coming x (whole x)) ≡ own_events vid needs (settings_told t) (coming y (whole y))
  own-same =
      same_by_source (own_events vid needs (settings_told s) (coming x (whole x))) (own_events vid needs (settings_told t) (coming y (whole y)))
      (turn-own Before vid needs (settings_told s) (coming x (whole x)) (merged-turns (changes_of x) (map (λ (c : TimedChange). c.at) x.changes) x.ports x.underlay))
      (turn-own Before vid needs (settings_told t) (coming y (whole y)) (merged-turns (changes_of y) (map (λ (c : TimedChange). c.at) y.changes) y.ports y.underlay))
      same

  events : own_events vid needs (settings_told s) (coming x l ++ behind x l first) ≡ own_events vid needs (settings_told t) (coming y m ++ behind y m other)
  events = ap (own_events vid needs (settings_told s)) (whole-coming x l first) ∙ own-same ∙ sym (ap (own_events vid needs (settings_told t)) (whole-coming y m other))

  answers : room_replies vid (settings_told s) (coming x l ++ behind x l first) ≡ room_replies vid (settings_told t) (coming y m ++ behind y m other)
  answers = ap (room_replies vid (settings_told s)) (whole-coming x l first) ∙ replies ∙ sym (ap (room_replies vid (settings_told t)) (whole-coming y m other))

  enough_first : IsEnough vid needs (settings_told s) (coming x l ++ behind x l first)
  enough_first = subst (IsEnough vid needs (settings_told s)) (sym (whole-coming x l first)) enough

  leaving : IsOneFront (departures_in vid (rows_of s x l)) (departures_in vid (rows_of t y m))
  leaving =
      leaving-stopped vid needs (settings_told s) (settings_told t) (coming x l) (behind x l first) (coming y m) (behind y m other)
      (coming-rising x l first) (coming-rising y m other) enough_first (part-told vid needs s t alike) events answers

  pub records-fronts : (output : Tap) → IsOneFront (records_in vid output (departures (rows_of s x l))) (records_in vid output (departures (rows_of t y m)))
  records-fronts output =
      subst (λ rs. IsOneFront rs (records_in vid output (departures (rows_of t y m)))) (records_by vid output (rows_of s x l))
      (subst (IsOneFront (records_of output (departures_in vid (rows_of s x l)))) (records_by vid output (rows_of t y m))
      (records-one output (departures_in vid (rows_of s x l)) (departures_in vid (rows_of t y m)) leaving))

  pub lines-fronts : IsOneFront (lines_in vid (rows_of s x l)) (lines_in vid (rows_of t y m))
  lines-fronts =
      lines-stopped vid needs (settings_told s) (settings_told t) (coming x l) (behind x l first) (coming y m) (behind y m other)
      (coming-rising x l first) (coming-rising y m other) enough_first (part-told vid needs s t alike) events answers
