-- The events of a run stand by moment, and those of one moment by source.
use Rattle.std.proofs.Common.{◌≡◌, refl, sym, ap, subst, ℕ, ◌+◌, ◌<◌, ◌≤◌, max, arith, Bool, true, false, cond, List, [], ◌∷◌, ◌++◌, map, Vec, Result, Ok, Err}
use Rattle.std.specs.Prelude.{nat_lt}
use Rattle.std.specs.List.{AllByRecursion, cons_option, flat_map}
use Rattle.std.specs.declared.alloc.Global.{Global}
use Rattle.std.proofs.lemmas.Bool.{ltb-true, ltb-false}
use Rattle.pcap.specs.Capture.{opened}
use Rattle.pcap.specs.Reading.{Reading}
use Rattle.pcap.specs.Record.{Record}
use Rattle.pcap.specs.declared.text.header.CaptureFault.{CaptureFault}
use Rattle.timeline.proofs.KnownEvents.{all-append}
use Rattle.timeline.proofs.Orders.{all-put_in, all_merged, rising_merged}
use Rattle.timeline.specs.Events.{all_events, change_events, events_of, record_events}
use Rattle.timeline.specs.Faults.{faults_of}
use Rattle.timeline.specs.Inputs.{inputs, inputs_from, opened_by, opened_captures}
use Rattle.timeline.specs.Order.{IsRising, merged, put_in}
use Rattle.timeline.specs.Timeline.{Timeline, told, cuts_of}
use Rattle.timeline.proofs.Telling.{faultless-ok}
use Rattle.timeline.specs.Words.{source_of}
use Rattle.timeline.specs.declared.capture.Opened.{Opened}
use Rattle.timeline.specs.declared.event.Event.{Event as Happens}
use Rattle.timeline.specs.declared.event.Happening.{Happening}
use Rattle.timeline.specs.declared.event.Happening.TheVariants as happenings
use Rattle.timeline.specs.declared.source.Source.{Source}
use Rattle.timeline.specs.declared.source.Source.TheVariants as sources
use Rattle.timeline.specs.declared.source.Tap.{Tap}
use Rattle.timeline.specs.declared.source.Tap.TheVariants as taps
use Rattle.overlay.specs.declared.settings.change.Change.{Change}
use Rattle.endpoint_core.specs.Event as event
use Rattle.capture_run.specs.Outputs.{event_of, input_of}
use Rattle.capture_run.proofs.Growing.{rising_events}
use Rattle.noninterference.specs.Coming as coming
use Rattle.noninterference.proofs.Lists.{all-map}
use Rattle.noninterference.proofs.Turns.{Before, InTurn, Tie, tap_tie-itself}

-- ---- by moment and source

-- the source of one isn't behind that of the other
abbrev Ties : Happens → Happens → Type 0
Ties e f = Tie (source_of e.happening) (source_of f.happening)

abbrev Sooner : Happens → Happens → Type 0
Sooner e f = (e.moment ≤ f.moment) × (e.moment ≡ f.moment → Ties e f)

sooner_all : (e f : Happens) (gs : List Happens) → e.moment ≤ f.moment → AllByRecursion (Sooner f) gs → AllByRecursion (Ties e) gs → AllByRecursion (Sooner e) gs
sooner_all e f [] le h ties = tt
sooner_all e f (g ∷ gs) le h ties = ((omega (arith, h.0.0), λ same. ties.0), sooner_all e f gs le h.1 ties.1)

turn-put_in : (e : Happens) (es : List Happens) → AllByRecursion (Ties e) es → InTurn Sooner es → InTurn Sooner (put_in e es)
turn-put_in e [] ties h = (tt, tt)
turn-put_in e (f ∷ fs) ties h = by (nat_lt f.moment e.moment) refl (turn-put_in e fs ties.1 h.1)
  where
    by : (b : Bool) → nat_lt f.moment e.moment ≡ b → InTurn Sooner (put_in e fs) → InTurn Sooner (cond b (f ∷ put_in e fs) (e ∷ f ∷ fs))
    by true is more =
        let lt : f.moment < e.moment = ltb-true _ _ is in
        (all-put_in (Sooner f) e fs (omega (arith, lt), λ same. absurd (omega (arith, lt, same))) h.0, more)
    by false is more =
        let le : e.moment ≤ f.moment = omega (arith, ltb-false _ _ is) in
        (((le, λ same. ties.0), sooner_all e f fs le h.0 ties.1), h)

turn_merged : (all : List Happens) → InTurn Ties all → InTurn Sooner (merged all)
turn_merged [] h = tt
turn_merged (e ∷ es) h = turn-put_in e (merged es) (all_merged (Ties e) es h.0) (turn_merged es h.1)

-- ---- the sources stand side by side

behind_changes : (es : List Happens) → AllByRecursion (λ f. Tie sources.Changes (source_of f.happening)) es
behind_changes [] = tt
behind_changes (e ∷ es) = (tt, behind_changes es)

turn_changes : (index : ℕ) (moments : List ℕ) (rest : List Happens) → InTurn Ties rest → InTurn Ties (change_events index moments ++ rest)
turn_changes index [] rest h = h
turn_changes index (m ∷ ms) rest h = (behind_changes (change_events (index + 1) ms ++ rest), turn_changes (index + 1) ms rest h)

all_of_tap : (P : Source → Type 0) (tap : Tap) (count latest : ℕ) (rs : List Record) → P (sources.Tap tap) → AllByRecursion (λ f. P (source_of f.happening)) (record_events tap count latest rs)
all_of_tap P tap count latest [] p = tt
all_of_tap P tap count latest (r ∷ rs) p = (p, all_of_tap P tap (count + 1) (max r.moment latest) rs p)

turn_records : (tap : Tap) (count latest : ℕ) (rs : List Record) (rest : List Happens) → AllByRecursion (λ f. Tie (sources.Tap tap) (source_of f.happening)) rest → InTurn Ties rest
    → InTurn Ties (record_events tap count latest rs ++ rest)
turn_records tap count latest [] rest ties h = h
turn_records tap count latest (r ∷ rs) rest ties h = (
  all-append (λ f. Tie (sources.Tap tap) (source_of f.happening)) (record_events tap (count + 1) (max r.moment latest) rs) rest
      (all_of_tap (Tie (sources.Tap tap)) tap (count + 1) (max r.moment latest) rs (tap_tie-itself tap)) ties,
  turn_records tap (count + 1) (max r.moment latest) rs rest ties h,
)

-- a capture and those behind it
all_opened : (P : Source → Type 0) (tap : Tap) (found : Result Reading CaptureFault) (others : List Opened) → P (sources.Tap tap)
    → AllByRecursion (λ f. P (source_of f.happening)) (flat_map events_of others)
    → AllByRecursion (λ f. P (source_of f.happening)) (flat_map events_of (cons_option (opened_by tap found) others))
all_opened P tap (Ok reading) others p h =
    all-append (λ f. P (source_of f.happening)) (record_events tap 0 0 reading.records) (flat_map events_of others) (all_of_tap P tap 0 0 reading.records p) h
all_opened P tap (Err fault) others p h = h

turn_opened : (tap : Tap) (found : Result Reading CaptureFault) (others : List Opened) → AllByRecursion (λ f. Tie (sources.Tap tap) (source_of f.happening)) (flat_map events_of others)
    → InTurn Ties (flat_map events_of others) → InTurn Ties (flat_map events_of (cons_option (opened_by tap found) others))
turn_opened tap (Ok reading) others ties h = turn_records tap 0 0 reading.records (flat_map events_of others) ties h
turn_opened tap (Err fault) others ties h = h

behind_port : (q port : ℕ) (vs : List (Vec ℕ Global)) (underlay : List ℕ) → q ≤ port
    → AllByRecursion (λ f. Tie (sources.Tap (taps.Port q)) (source_of f.happening)) (flat_map events_of (opened_captures (inputs_from port vs underlay)))
behind_port q port [] underlay le = all_opened (Tie (sources.Tap (taps.Port q))) taps.Underlay (opened underlay) [] tt tt
behind_port q port (v ∷ vs) underlay le =
    all_opened (Tie (sources.Tap (taps.Port q))) (taps.Port port) (opened v.items) (opened_captures (inputs_from (port + 1) vs underlay)) le
    (behind_port q (port + 1) vs underlay (omega (arith, le)))

turn_captures : (port : ℕ) (vs : List (Vec ℕ Global)) (underlay : List ℕ) → InTurn Ties (flat_map events_of (opened_captures (inputs_from port vs underlay)))
turn_captures port [] underlay = turn_opened taps.Underlay (opened underlay) [] tt tt
turn_captures port (v ∷ vs) underlay =
    turn_opened (taps.Port port) (opened v.items) (opened_captures (inputs_from (port + 1) vs underlay)) (behind_port port (port + 1) vs underlay (omega arith))
    (turn_captures (port + 1) vs underlay)

turn_all : (changes : List ℕ) (vs : List (Vec ℕ Global)) (underlay : List ℕ) → InTurn Ties (all_events changes (opened_captures (inputs vs underlay)))
turn_all changes vs underlay = turn_changes 0 changes (flat_map events_of (opened_captures (inputs vs underlay))) (turn_captures 1 vs underlay)

-- ---- a timeline

pub told_events : (changes : List ℕ) (vs : List (Vec ℕ Global)) (underlay : List ℕ) (timeline : Timeline) → told changes vs underlay ≡ Ok timeline
    → merged (all_events changes (opened_captures (inputs vs underlay))) ≡ timeline.events
unfolding told
told_events changes vs underlay timeline is =
    ap (λ (t : Timeline). t.events)
    (faultless-ok (faults_of (inputs vs underlay))
    (record { events = merged (all_events changes (opened_captures (inputs vs underlay))); cuts = cuts_of (opened_captures (inputs vs underlay)) }) timeline is)

-- ---- as the endpoint takes them

pub same_source : (changes : List Change) (h : Happening) → coming.source_of (input_of changes h) ≡ source_of h
same_source changes (happenings.Change index) = refl
same_source changes (happenings.Record (taps.Port port) c) = refl
same_source changes (happenings.Record taps.Underlay c) = refl

before_by : (changes : List Change) (e f : Happens) → Sooner e f → Before (event_of changes e) (event_of changes f)
before_by changes e f h = (
  h.0,
  λ same. subst (λ s. Tie s (coming.source_of (input_of changes f.happening))) (sym (same_source changes e.happening))
      (subst (Tie (source_of e.happening)) (sym (same_source changes f.happening)) (h.1 same)),
)

turn_events : (changes : List Change) (es : List Happens) → InTurn Sooner es → InTurn Before (map (event_of changes) es)
turn_events changes [] h = tt
turn_events changes (e ∷ es) h =
    (all-map (Sooner e) (Before (event_of changes e)) (event_of changes) (λ f. before_by changes e f) es h.0, turn_events changes es h.1)

-- of all whole records, also where a capture has a fault behind them

pub merged-rises : (changes : List Change) (moments : List ℕ) (vs : List (Vec ℕ Global)) (underlay : List ℕ)
    → event.IsRising 0 (map (event_of changes) (merged (all_events moments (opened_captures (inputs vs underlay)))))
merged-rises changes moments vs underlay =
    let all = all_events moments (opened_captures (inputs vs underlay)) in
    rising_events changes 0 (merged all) (rising_merged all)

pub merged-turns : (changes : List Change) (moments : List ℕ) (vs : List (Vec ℕ Global)) (underlay : List ℕ)
    → InTurn Before (map (event_of changes) (merged (all_events moments (opened_captures (inputs vs underlay)))))
merged-turns changes moments vs underlay =
    let all = all_events moments (opened_captures (inputs vs underlay)) in
    turn_events changes (merged all) (turn_merged all (turn_all moments vs underlay))

-- of a timeline that is told

pub coming-rises : (changes : List Change) (moments : List ℕ) (vs : List (Vec ℕ Global)) (underlay : List ℕ) (timeline : Timeline) → told moments vs underlay ≡ Ok timeline
    → event.IsRising 0 (map (event_of changes) timeline.events)
coming-rises changes moments vs underlay timeline is =
    subst (λ es. event.IsRising 0 (map (event_of changes) es)) (told_events moments vs underlay timeline is) (merged-rises changes moments vs underlay)

pub coming-turns : (changes : List Change) (moments : List ℕ) (vs : List (Vec ℕ Global)) (underlay : List ℕ) (timeline : Timeline) → told moments vs underlay ≡ Ok timeline
    → InTurn Before (map (event_of changes) timeline.events)
coming-turns changes moments vs underlay timeline is =
    subst (λ es. InTurn Before (map (event_of changes) es)) (told_events moments vs underlay timeline is) (merged-turns changes moments vs underlay)
